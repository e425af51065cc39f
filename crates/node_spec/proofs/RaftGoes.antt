-- Raft's turns are stretches of an event.
use Rattle.std.proofs.Common.{◌≡◌, ◌≢◌, ◌⊎◌, inl, inr, ⊎_elim, ℕ, zero, suc, ◌<◌, ◌≤◌, false, List, [], ◌∷◌, ◌++◌, length, take, drop, refl, sym, ap, ◌∙◌, subst, arith, append-nil}
use Rattle.std.specs.Prelude.{map, Option}
use Rattle.std.proofs.lemmas.List.{drop_at, length-replicate}
use Rattle.sql_engine.specs.declared.kind.EngineKind.{EngineKind}
use Rattle.sql_engine.specs.Meanings.{Meaning}
use Rattle.database_state.specs.Machines.{IsMachine}
use Rattle.wire_msgs.specs.declared.request.Request.{Request}
use Rattle.session_safety.specs.Answering.{Handled}
use Rattle.session_spec.specs.Entries.{Entry as Line}
use Rattle.session_spec.specs.Events.{on_lost, told_lost}
use Rattle.session_spec.specs.Machine.{machine_of}
use Rattle.session_spec.specs.Restarts.{restarted, shifted}
use Rattle.session_spec.specs.Seen.{log_seen}
use Rattle.session_spec.specs.Sessions.{Reply}
use Rattle.session_spec.proofs.RestartedEvents.{events_shift_hold}
use Rattle.session_safety.specs.Nodes.{Said, Node as Life, databases}
use Rattle.session_safety.specs.Life.{Event as Doing, Lose, told_all, happens, run_from as lives_on}
use Rattle.session_safety.specs.Answering.{handled_in}
use Rattle.session_safety.specs.Lending.{lent_in, answers_in}
use Rattle.session_safety.specs.Laws.{NoneComes}
use Rattle.raft_spec.specs.Log.{Entry, LogEnd}
use Rattle.raft_spec.specs.Node.{Node, Timeout, Beat, Yield, Propose, Transfer, Snapped, UseServers, Input, Local, Receive, is_leader}
use Rattle.raft_spec.specs.NodeValues.{node_of}
use Rattle.raft_spec.specs.Account.{stored_of, steps}
use Rattle.raft_spec.specs.Compaction.{compacted, compacted_step}
use Rattle.raft_safety.specs.Laws.{SameUpTo}
use Rattle.raft_safety.specs.Members.{Setup, member_step}
use Rattle.raft_safety.specs.Cuts.{Twin, AlikeInput, AlikeInputs, Told}
use Rattle.raft_safety.specs.Properties.{ProposalKeeps}
use Rattle.store_laws.specs.Store.{Kept}
use Rattle.cluster_model.specs.Clusters.{AllFitIn, InTerm, step_logs}
use Rattle.cluster_model.specs.Weaving.{IsWoven}
use Rattle.node_spec.specs.Nodes.{KeptIs}
use Rattle.node_spec.specs.Steps.{Letter, Taken, TakesIn, told, calls, ArePartOf}
use Rattle.node_spec.specs.Snapshots.{SnapshotIs}
use Rattle.node_spec.specs.Accounts.{Moment, with_due, DueWeaves, StandsAt, Piece, no_piece, taken_by, NoneWaited, Lives, Goes}
use Rattle.node_spec.specs.Turns.{KeepsClients}
use Rattle.node_spec.specs.RaftTurns.{raft_after, RaftSteps, KeepsSnapshot, AllIsKept, ProposalsTaken, LeavesLog, LeavingGoes, LeadershipFollows, in_office, loses, has_none, IsNoProposal, FollowingGoes}
use Rattle.node_spec.proofs.RaftLives.{Led, IsReady, goes_with}
use Rattle.node_spec.proofs.RaftShapes.{Shape, Still, step_shape, servers_still, beat_still, transfer_still}
use Rattle.node_spec.proofs.SnapshotSteps.{snapshots_stay}
use Rattle.node_spec.proofs.Stretches.{part_self, tail_is, lives_join, none_join, calls_join, handled_join, none_lent, none_used}
use Rattle.node_spec.proofs.Taking.{kept_stands}

-- ---- what is kept

pub all_is_kept_holds : AllIsKept
all_is_kept_holds a bytes e =
    let h = a.node.raft in
    let rest : drop h.base (compacted h.snapshot h.base ++ h.entries) ≡ h.entries = drop_at (compacted h.snapshot h.base) h.entries h.base (length-replicate h.base _) in
    record {
      term = ap (λ (k : Kept). k.term) e;
      vote = ap (λ (k : Kept). k.vote) e;
      log = ap (λ (k : Kept). k.log) e ∙ ap (λ (es : List Entry). record { first = suc h.base; entries = es }) rest;
      index = ap (λ (k : Kept). k.snap.index) e;
      snap_term = ap (λ (k : Kept). k.snap.term) e;
    }

pub proposals_taken_hold : ProposalsTaken
proposals_taken_hold me a b es letters step coherent leads due snapshot rest = record {
  due = due;
  leads = leads;
  made = step.made;
  says = step.says ∙ sym (append-nil (compacted_step me (node_of a.node.raft) (Local (Propose es))).out);
  coherent = step.coherent;
  kept = step.kept;
  snap = snapshot.bytes;
  snapshot = snapshot.snapshot;
  front = coherent.applied;
  rest = rest;
}

-- ---- one input

-- what is taken in, alone
pub record Alone (is : List Input) (i : Input) : Type 0 where
  pub input : Input
  pub is_it : is ≡ input ∷ []
  pub alike : AlikeInput input i

head_is : {A : Type 0} (x y : A) (xs ys : List A) → x ∷ xs ≡ y ∷ ys → x ≡ y
head_is x y xs ys e = cc

pub alone : (is : List Input) (i : Input) → AlikeInputs is (i ∷ []) → Alone is i
alone [] i a = absurd cc
alone (j ∷ is) i a = record {
  input = j;
  is_it = ap (λ (l : List Input). j ∷ l) (none is (subst (AlikeInputs is) (sym (tail_is i a.0 [] a.1 a.2)) a.4));
  alike = subst (AlikeInput j) (sym (head_is i a.0 [] a.1 a.2)) a.3;
}
  where
    none : (l : List Input) → AlikeInputs l [] → l ≡ []
    none [] e = refl
    none (x ∷ l) e = absurd cc

-- an input that is alike to none that proposes doesn't
pub no_proposal : (j i : Input) → AlikeInput j i → IsNoProposal i → (es : List Entry) → j ≢ Local (Propose es)
no_proposal j i alike other es e = subst IsNoProposal (subst (λ (x : Input). AlikeInput x i) e alike) other

pub keeps_woven : (j : Input) (s : Node) → ((es : List Entry) → j ≢ Local (Propose es)) → ProposalKeeps IsWoven s j
keeps_woven (Local (Propose es)) s other = absurd (other es refl)
keeps_woven (Local Timeout) s other = tt
keeps_woven (Local Beat) s other = tt
keeps_woven (Local Yield) s other = tt
keeps_woven (Local (Transfer to)) s other = tt
keeps_woven (Local (Snapped i)) s other = tt
keeps_woven (Local (UseServers servers)) s other = tt
keeps_woven (Receive m) s other = tt

-- one that is alike to a local one is that one
pub local_is : (j i : Input) → AlikeInput j i → LeavesLog i → j ≡ i
local_is (Local local) i alike l = sym alike
local_is (Receive m) i alike l = absurd (subst LeavesLog alike.1 l)

-- ---- a step at what a moment represents

-- The node after it, beside the moment before it and the node of the code's after it.
pub record Stepped (vs : Setup) (me : ℕ) (a : Moment) (s t u : Node) : Type 0 where
  pub twin : Twin t u
  pub rise : s.commit ≤ t.commit
  pub front : SameUpTo s.commit s.log t.log
  pub within : t.commit ≤ length t.log
  pub shape : Shape s t
  pub low : s.snapshot.index ≤ s.commit
  pub term : a.node.raft.term ≡ s.term
  pub leads : is_leader a.node.raft.role ≡ is_leader s.role
  pub commit : a.node.raft.commit ≡ s.commit
  pub snapshot : a.node.raft.snapshot ≡ s.snapshot
  pub term_after : u.term ≡ t.term
  pub leads_after : is_leader u.role ≡ is_leader t.role
  pub snapshot_after : u.snapshot ≡ t.snapshot

pub stepped_to : (vs : Setup) (me : ℕ) (a : Moment) (u : Node) (i j : Input) (x : Taken) (s : Node) (w : Life) → u ≡ raft_after me a i → StandsAt vs a s w → x.inputs ≡ i ∷ [] → TakesIn vs me a.node s (j ∷ []) x → Told vs me s (j ∷ []) → Stepped vs me a s (member_step vs me s j).node u
stepped_to vs me a u i j x s w is stands only takes told =
    let t = (member_step vs me s j).node in
    let v = node_of a.node.raft in
    let one : Twin t (steps (compacted_step me) v (take 1 x.inputs)) = takes.twins 1 (told.0, told.1, tt) in
    let two : Twin t (steps (compacted_step me) v (take 1 (i ∷ []))) = subst (λ (l : List Input). Twin t (steps (compacted_step me) v (take 1 l))) only one in
    let twin : Twin t u = subst (Twin t) (sym is) two in
    let commit : a.node.raft.commit ≡ s.commit = ap (λ (z : Node). z.commit) stands.twin.node in
    let snapshot : a.node.raft.snapshot ≡ s.snapshot = ap (λ (z : Node). z.snapshot) stands.twin.node in
    let index : a.node.raft.snapshot.index ≡ s.snapshot.index = ap (λ (z : LogEnd). z.index) snapshot in
    let applied : a.node.raft.snapshot.index ≤ a.node.raft.commit = stands.raft.applied in
    record {
      twin = twin;
      rise = (takes.kept 0).0;
      front = (takes.kept 0).1;
      within = (takes.kept 1).1.0;
      shape = step_shape vs me s j;
      low = omega (arith, commit, index, applied);
      term = ap (λ (z : Node). z.term) stands.twin.node;
      leads = ap (λ (z : Node). is_leader z.role) stands.twin.node;
      commit = commit;
      snapshot = snapshot;
      term_after = ap (λ (z : Node). z.term) twin.node;
      leads_after = ap (λ (z : Node). is_leader z.role) twin.node;
      snapshot_after = ap (λ (z : Node). z.snapshot) twin.node;
    }

-- what is kept of the node after a step that leaves the snapshot
pub still_kept : (vs : Setup) (me : ℕ) (a b : Moment) (i j : Input) (letters : List Letter) (x : Taken) (s : Node) (w : Life) → RaftSteps me a b i letters → KeepsSnapshot a b → StandsAt vs a s w → TakesIn vs me a.node s (j ∷ []) x →
    Stepped vs me a s (member_step vs me s j).node (node_of b.node.raft) → KeptIs vs b.node.kept (stored_of (member_step vs me s j).node)
still_kept vs me a b i j letters x s w step keeps stands takes st =
    let t = (member_step vs me s j).node in
    let same : t.snapshot ≡ s.snapshot = sym st.snapshot_after ∙ keeps.snapshot ∙ st.snapshot in
    let was : SnapshotIs vs s b.node.kept.snap.bytes = subst (λ k. SnapshotIs vs s k.bytes) (sym keeps.bytes) stands.kept.bytes in
    kept_stands vs b.node.kept b.node.raft t st.twin step.kept (snapshots_stay vs me a.node s (j ∷ []) x 0 b.node.kept.snap.bytes takes st.low same was)

-- ---- what is reported where a leadership is lost

pub told_none : (replies : List (ℕ × Reply)) → NoneWaited (told_all replies)
told_none [] = tt
told_none (x ∷ replies) = (refl, told_none replies)

pub told_back : (replies : List (ℕ × Reply)) → replies ≡ map told (told_all replies)
told_back [] = refl
told_back (x ∷ replies) = ap (λ (l : List (ℕ × Reply)). x ∷ l) (told_back replies)

pub term_of_none : (w : Life) (xs : List Said) → NoneWaited xs → InTerm w xs
term_of_none w [] a = tt
term_of_none w (x ∷ xs) a = let z : x.index ≡ 0 = a.0 in ((λ h. absurd (omega (arith, h))), term_of_none w xs a.1)

-- ---- the life of a step

-- What happens in a life by a step, and that it is at the moment after it, if nothing is due.
pub record Ends (m : Meaning) (kind : EngineKind) (logs : ℕ → List Line) (b : Moment) (t : Node) (w : Life) (replies : List (ℕ × Reply)) : Type 0 where
  pub life : List Doing
  pub fits : AllFitIn m kind logs w life
  pub log : (lives_on w life).log ≡ log_seen t.log
  pub applied : (lives_on w life).applied ≡ b.applied
  pub term : (lives_on w life).term ≡ t.term
  pub leads : (lives_on w life).leads ≡ is_leader t.role
  pub serving : (lives_on w life).serving ≡ b.node.serving
  pub lacks : List ℕ → ℕ
  pub since : List ℕ → ℕ
  pub files : databases (lives_on w life) ≡ restarted lacks since (machine_of b.node.machine)
  pub sessions : (lives_on w life).gate ≡ shifted lacks b.node.sessions
  pub said : (lives_on w life).said ≡ w.said ++ told_all replies
  pub none : (conn : ℕ) → NoneComes conn life
  pub calls_none : (conn : ℕ) → calls conn life ≡ []
  pub handled : (conn : ℕ) → handled_in conn w life ≡ []
  pub lends : lent_in w life ≡ []
  pub uses : answers_in w life ≡ []

pub lives_so : (m : Meaning) (kind : EngineKind) (vs : Setup) (me : ℕ) (joins : Option ℕ) (a b : Moment) (i j : Input) (letters : List Letter) (replies : List (ℕ × Reply)) (s : Node) (w : Life) →
    let t = (member_step vs me s j).node in RaftSteps me a b i letters → Stepped vs me a s t (node_of b.node.raft) → Ends m kind (step_logs vs me s (j ∷ [])) b t w replies → ((es : List Entry) → j ≢ Local (Propose es)) → b.due ≡ [] → b.applied ≤ t.commit →
    IsMachine b.node.machine → KeptIs vs b.node.kept (stored_of t) → ((conn : ℕ) → b.node.waiting conn ≡ a.node.waiting conn) → Lives m kind vs me joins a b (record no_piece { inputs = i ∷ []; letters = letters; replies = replies }) s w (j ∷ [])
lives_so m kind vs me joins a b i j letters replies s w step st e other due within machine kept waiting =
    let t = (member_step vs me s j).node in
    record {
      life = e.life;
      said = told_all replies;
      weaves = (keeps_woven j s other, tt);
      fits = e.fits;
      stands = record {
        twin = st.twin;
        raft = step.coherent;
        up = sym (ap (λ (z : Node). z.up) st.twin.node);
        log = e.log ∙ ap (λ (l : List (List Entry)). log_seen (with_due t.term t.log l)) (sym due);
        weaves = subst (DueWeaves t.term t.log) (sym due) tt;
        applied = e.applied;
        within = within;
        term = e.term;
        leads = e.leads;
        serving = e.serving;
        machine = machine;
        lacks = e.lacks;
        since = e.since;
        files = e.files;
        sessions = e.sessions;
        kept = kept;
      };
      says = e.said;
      replies = told_back replies;
      lends = sym e.lends;
      uses = sym e.uses;
      terms = λ f. term_of_none (lives_on w e.life) (told_all replies) (told_none replies);
      early = λ z. told_none replies;
      joined = λ conn differs. e.none conn;
      handles = λ conn. subst (λ (l : List Request). ArePartOf (l ++ b.node.waiting conn) (a.node.waiting conn ++ [])) (sym (e.calls_none conn)) (subst (ArePartOf (b.node.waiting conn)) (waiting conn ∙ sym (append-nil (a.node.waiting conn))) (part_self (b.node.waiting conn)));
      completes = λ conn opened differs. record {
        all = ap (λ (l : List Request). l ++ b.node.waiting conn) (e.calls_none conn) ∙ waiting conn ∙ sym (append-nil (a.node.waiting conn));
        handled = ap (map (λ (h : Handled). h.request)) (e.handled conn) ∙ sym (e.calls_none conn);
      };
    }

-- ---- steps that leave the log

leaves_still : (vs : Setup) (me : ℕ) (s : Node) (i : Input) → LeavesLog i → Still s (member_step vs me s i).node
leaves_still vs me s (Local Beat) l = beat_still vs me s
leaves_still vs me s (Local (Transfer to)) l = transfer_still vs me s to
leaves_still vs me s (Local (UseServers servers)) l = servers_still vs me s servers
leaves_still vs me s (Local Timeout) l = absurd l
leaves_still vs me s (Local Yield) l = absurd l
leaves_still vs me s (Local (Propose es)) l = absurd l
leaves_still vs me s (Local (Snapped index)) l = absurd l
leaves_still vs me s (Receive m) l = absurd l

not_proposed : (i : Input) → LeavesLog i → (es : List Entry) → i ≢ Local (Propose es)
not_proposed i l es e = subst LeavesLog e l

-- a step after which log, term and leadership are the same, with whatever is due
pub still_lives : (m : Meaning) (kind : EngineKind) (vs : Setup) (me : ℕ) (joins : Option ℕ) (a b : Moment) (i j : Input) (letters : List Letter) (s : Node) (w : Life) →
    let t = (member_step vs me s j).node in RaftSteps me a b i letters → StandsAt vs a s w → Stepped vs me a s t (node_of b.node.raft) → Still s t → ((es : List Entry) → j ≢ Local (Propose es)) → b.due ≡ a.due → KeepsClients a b → KeptIs vs b.node.kept (stored_of t) →
    Lives m kind vs me joins a b (record no_piece { inputs = i ∷ []; letters = letters }) s w (j ∷ [])
still_lives m kind vs me joins a b i j letters s w step x st still other due rest kept =
    let t = (member_step vs me s j).node in
    let same : with_due s.term s.log a.due ≡ with_due t.term t.log b.due =
    ap (with_due s.term s.log) (sym due) ∙ ap (λ (l : List Entry). with_due s.term l b.due) (sym still.log) ∙ ap (λ (n : ℕ). with_due n t.log b.due) (sym still.term) in
    let weaves : DueWeaves t.term t.log b.due =
    subst (λ (n : ℕ). DueWeaves n t.log b.due) (sym still.term) (subst (λ (l : List Entry). DueWeaves s.term l b.due) (sym still.log) (subst (DueWeaves s.term s.log) (sym due) x.weaves)) in
    record {
      life = [];
      said = [];
      weaves = (keeps_woven j s other, tt);
      fits = tt;
      stands = record {
        twin = st.twin;
        raft = step.coherent;
        up = sym (ap (λ (z : Node). z.up) st.twin.node);
        log = x.log ∙ ap log_seen same;
        weaves = weaves;
        applied = x.applied ∙ sym rest.applied;
        within = (let in_s = x.within in let at = rest.applied in let rise = st.rise in omega (arith, in_s, at, rise));
        term = x.term ∙ sym still.term;
        leads = x.leads ∙ ap is_leader (sym still.role);
        serving = x.serving ∙ sym rest.serving;
        machine = rest.machine;
        lacks = x.lacks;
        since = x.since;
        files = x.files ∙ ap (restarted x.lacks x.since) (sym rest.files);
        sessions = x.sessions ∙ ap (shifted x.lacks) (sym rest.sessions);
        kept = kept;
      };
      says = sym (append-nil w.said);
      replies = refl;
      lends = refl;
      uses = refl;
      terms = λ f. tt;
      early = λ z. tt;
      joined = λ conn differs. tt;
      handles = λ conn. subst (ArePartOf (b.node.waiting conn)) (rest.waiting conn ∙ sym (append-nil (a.node.waiting conn))) (part_self (b.node.waiting conn));
      completes = λ conn opened differs. record { all = rest.waiting conn ∙ sym (append-nil (a.node.waiting conn)); handled = refl };
    }

-- a stretch of one input, by its life at whatever the moment represents
pub one_goes : (m : Meaning) (kind : EngineKind) (vs : Setup) (me : ℕ) (bytes : List ℕ) (joins : Option ℕ) (a b : Moment) (i : Input) (letters : List Letter) (replies : List (ℕ × Reply)) → RaftSteps me a b i letters →
    ((s : Node) (w : Life) (j : Input) → AlikeInput j i → StandsAt vs a s w → TakesIn vs me a.node s (j ∷ []) (taken_by bytes joins (record no_piece { inputs = i ∷ []; letters = letters; replies = replies })) → Told vs me s (j ∷ []) →
    Lives m kind vs me joins a b (record no_piece { inputs = i ∷ []; letters = letters; replies = replies }) s w (j ∷ [])) →
    Goes m kind vs me bytes joins a b (record no_piece { inputs = i ∷ []; letters = letters; replies = replies })
one_goes m kind vs me bytes joins a b i letters replies step each =
    let p : Piece = record no_piece { inputs = i ∷ []; letters = letters; replies = replies } in
    record {
      made = step.made;
      letters = step.says ∙ sym (append-nil (compacted_step me (node_of a.node.raft) i).out);
      lives = λ s w is stands takes told.
          let o = alone is i takes.alike in
          subst (Lives m kind vs me joins a b p s w) (sym o.is_it) (each s w o.input o.alike stands (subst (λ (l : List Input). TakesIn vs me a.node s l (taken_by bytes joins p)) o.is_it takes) (subst (Told vs me s) o.is_it told));
    }

pub leaving_goes_holds : (m : Meaning) (kind : EngineKind) → LeavingGoes m kind
leaving_goes_holds m kind vs me bytes joins a b i letters l = one_goes m kind vs me bytes joins a b i letters [] l.step
    (λ s w j alike x takes told.
    let st = stepped_to vs me a (node_of b.node.raft) i j (taken_by bytes joins (record no_piece { inputs = i ∷ []; letters = letters })) s w l.step.made x refl takes told in
    let same : j ≡ i = local_is j i alike l.leaves in
    let still : Still s (member_step vs me s j).node = subst (λ (k : Input). Still s (member_step vs me s k).node) (sym same) (leaves_still vs me s i l.leaves) in
    let other : (es : List Entry) → j ≢ Local (Propose es) = subst (λ (k : Input). (es : List Entry) → k ≢ Local (Propose es)) (sym same) (not_proposed i l.leaves) in
    still_lives m kind vs me joins a b i j letters s w l.step x st still other l.due l.rest
    (still_kept vs me a b i j letters (taken_by bytes joins (record no_piece { inputs = i ∷ []; letters = letters })) s w l.step l.snapshot x takes st))

-- ---- a message, a timeout or a heartbeat

-- the life with a leadership that is lost first, or without
pub record Before (m : Meaning) (kind : EngineKind) (logs : ℕ → List Line) (a b : Moment) (t : Node) (w : Life) (lacks : List ℕ → ℕ) (replies : List (ℕ × Reply)) : Type 0 where
  pub life : List Doing
  pub ready : IsReady (lives_on w life) t
  pub fits : AllFitIn m kind logs w life
  pub log : (lives_on w life).log ≡ w.log
  pub applied : (lives_on w life).applied ≡ w.applied
  pub serving : (lives_on w life).serving ≡ b.node.serving
  pub sessions : (lives_on w life).gate ≡ shifted lacks b.node.sessions
  pub said : (lives_on w life).said ≡ w.said ++ told_all replies
  pub files : databases (lives_on w life) ≡ databases w
  pub none : (conn : ℕ) → NoneComes conn life
  pub calls_none : (conn : ℕ) → calls conn life ≡ []
  pub handled : (conn : ℕ) → handled_in conn w life ≡ []
  pub lends : lent_in w life ≡ []
  pub uses : answers_in w life ≡ []

-- what is said where none was told
still_said : (said : List Said) (replies : List (ℕ × Reply)) → replies ≡ [] → said ≡ said ++ told_all replies
still_said said replies e = sym (append-nil said) ∙ ap (λ (l : List (ℕ × Reply)). said ++ told_all l) (sym e)

-- a leadership, or the waiting for one, ends by a greater term
pub loses_first : (m : Meaning) (kind : EngineKind) (logs : ℕ → List Line) (a b : Moment) (s t : Node) (w : Life) (replies : List (ℕ × Reply)) (vs : Setup) (x : StandsAt vs a s w) → s.term < t.term →
    b.node.sessions ≡ on_lost a.node.sessions → b.node.serving ≡ false → replies ≡ told_lost a.node.sessions → Before m kind logs a b t w x.lacks replies
unfolding happens
loses_first m kind logs a b s t w replies vs x rises sessions serving told =
    let term : w.term ≡ s.term = x.term in
    let shift = events_shift_hold x.lacks a.node.sessions in
    record {
      life = Lose t.term ∷ [];
      ready = record { term = refl; office = inr (refl, refl) };
      fits = (omega (arith, rises, term), tt);
      log = refl;
      applied = refl;
      serving = sym serving;
      sessions = ap on_lost x.sessions ∙ shift.lost ∙ ap (shifted x.lacks) (sym sessions);
      said = ap (λ (l : List (ℕ × Reply)). w.said ++ told_all l) (ap told_lost x.sessions ∙ shift.told_lost ∙ sym told);
      files = refl;
      none = λ conn. ((λ q. cc), tt);
      calls_none = λ conn. refl;
      handled = λ conn. refl;
      lends = refl;
      uses = refl;
    }

-- the term stays
pub stays_first : (m : Meaning) (kind : EngineKind) (logs : ℕ → List Line) (a b : Moment) (s t : Node) (w : Life) (replies : List (ℕ × Reply)) (vs : Setup) (x : StandsAt vs a s w) → IsReady w t →
    b.node.sessions ≡ a.node.sessions → b.node.serving ≡ a.node.serving → replies ≡ [] → Before m kind logs a b t w x.lacks replies
stays_first m kind logs a b s t w replies vs x ready sessions serving told = record {
  life = [];
  ready = ready;
  fits = tt;
  log = refl;
  applied = refl;
  serving = x.serving ∙ sym serving;
  sessions = x.sessions ∙ ap (shifted x.lacks) (sym sessions);
  said = still_said w.said replies told;
  files = refl;
  none = λ conn. tt;
  calls_none = λ conn. refl;
  handled = λ conn. refl;
  lends = refl;
  uses = refl;
}

-- a term that isn't another one, or is a greater one
pub same_or_more : (a b : ℕ) → a ≤ b → (b ≡ a) ⊎ (a < b)
same_or_more zero zero h = inl refl
same_or_more zero (suc b) h = inr (omega arith)
same_or_more (suc a) zero h = absurd (omega (arith, h))
same_or_more (suc a) (suc b) h = ⊎_elim (λ (e : b ≡ a). inl (ap suc e)) (λ (l : a < b). inr (omega (arith, l))) (same_or_more a b (omega (arith, h)))

pub first_of : (m : Meaning) (kind : EngineKind) (logs : ℕ → List Line) (vs : Setup) (me : ℕ) (a b : Moment) (s t : Node) (w : Life) (replies : List (ℕ × Reply)) (x : StandsAt vs a s w) → Stepped vs me a s t (node_of b.node.raft) → LeadershipFollows a b replies → Before m kind logs a b t w x.lacks replies
first_of m kind logs vs me a b s t w replies x st (in_office leads after term sessions serving told) =
    stays_first m kind logs a b s t w replies vs x
    (record { term = x.term ∙ sym st.term ∙ sym term ∙ st.term_after; office = inl (x.leads ∙ sym st.leads ∙ leads, sym st.leads_after ∙ after) })
    sessions serving told
first_of m kind logs vs me a b s t w replies x st (loses leads differs sessions serving told) =
    loses_first m kind logs a b s t w replies vs x
    (⊎_elim
    (λ (e : t.term ≡ s.term). absurd (differs (st.leads_after ∙ st.shape.leads (sym st.leads ∙ leads) e) (st.term_after ∙ e ∙ sym st.term)))
    (λ (l : s.term < t.term). l)
    (same_or_more s.term t.term st.shape.up))
    sessions serving told
first_of m kind logs vs me a b s t w replies x st (has_none down ended sessions idle serving told) = ⊎_elim
    (λ (e : t.term ≡ s.term). stays_first m kind logs a b s t w replies vs x
    (record { term = x.term ∙ sym e; office = inr (x.leads ∙ sym st.leads ∙ down, x.serving ∙ idle) })
    sessions (serving ∙ sym idle) told)
    (λ (l : s.term < t.term). loses_first m kind logs a b s t w replies vs x l (sessions ∙ sym ended.ended) serving (told ∙ sym ended.told))
    (same_or_more s.term t.term st.shape.up)

-- lists of events that fit, one after the other
pub fit_both : (m : Meaning) (kind : EngineKind) (logs : ℕ → List Line) (w : Life) (xs ys : List Doing) → AllFitIn m kind logs w xs → AllFitIn m kind logs (lives_on w xs) ys → AllFitIn m kind logs w (xs ++ ys)
fit_both m kind logs w [] ys a b = b
fit_both m kind logs w (x ∷ xs) ys a b = (a.0, fit_both m kind logs (happens w x) xs ys a.1 b)

-- what happened first, and then what the step makes of the log
pub ends_with : (m : Meaning) (kind : EngineKind) (vs : Setup) (me : ℕ) (a b : Moment) (s t : Node) (w : Life) (replies : List (ℕ × Reply)) (logs : ℕ → List Line) (x : StandsAt vs a s w) (f : Before m kind logs a b t w x.lacks replies) →
    Led m kind logs (lives_on w f.life) (log_seen t.log) t.term (is_leader t.role) → b.applied ≡ a.applied → machine_of b.node.machine ≡ machine_of a.node.machine → Ends m kind logs b t w replies
ends_with m kind vs me a b s t w replies logs x f l applied files =
    let on = lives_join w f.life l.life in
    record {
      life = f.life ++ l.life;
      fits = fit_both m kind logs w f.life l.life f.fits l.fits;
      log = ap (λ (v : Life). v.log) on ∙ l.log_is;
      applied = ap (λ (v : Life). v.applied) on ∙ l.applied ∙ f.applied ∙ x.applied ∙ sym applied;
      term = ap (λ (v : Life). v.term) on ∙ l.term_is;
      leads = ap (λ (v : Life). v.leads) on ∙ l.leads_is;
      serving = ap (λ (v : Life). v.serving) on ∙ l.serving ∙ f.serving;
      lacks = x.lacks;
      since = x.since;
      files = ap databases on ∙ l.files_are ∙ f.files ∙ x.files ∙ ap (restarted x.lacks x.since) (sym files);
      sessions = ap (λ (v : Life). v.gate) on ∙ l.gate ∙ f.sessions;
      said = ap (λ (v : Life). v.said) on ∙ l.said ∙ f.said;
      none = λ conn. none_join conn f.life l.life (f.none conn) (l.none conn);
      calls_none = λ conn. calls_join conn f.life l.life ∙ ap (λ (c : List Request). c ++ calls conn l.life) (f.calls_none conn) ∙ l.calls_none conn;
      handled = λ conn. handled_join conn w f.life l.life ∙ ap (λ (h : List Handled). h ++ handled_in conn (lives_on w f.life) l.life) (f.handled conn) ∙ l.handled conn;
      lends = none_lent w f.life l.life f.lends l.lends;
      uses = none_used w f.life l.life f.uses l.uses;
    }

pub following_goes_holds : (m : Meaning) (kind : EngineKind) → FollowingGoes m kind
following_goes_holds m kind vs me bytes joins a b i letters replies h = one_goes m kind vs me bytes joins a b i letters replies h.step by
  where
    by : (s : Node) (w : Life) (j : Input) → AlikeInput j i → StandsAt vs a s w → TakesIn vs me a.node s (j ∷ []) (taken_by bytes joins (record no_piece { inputs = i ∷ []; letters = letters; replies = replies })) → Told vs me s (j ∷ []) → Lives m kind vs me joins a b (record no_piece { inputs = i ∷ []; letters = letters; replies = replies }) s w (j ∷ [])
    by s w j alike x takes told =
        let t = (member_step vs me s j).node in
        let logs = step_logs vs me s (j ∷ []) in
        let q = taken_by bytes joins (record no_piece { inputs = i ∷ []; letters = letters; replies = replies }) in
        let st = stepped_to vs me a (node_of b.node.raft) i j q s w h.step.made x refl takes told in
        let other = no_proposal j i alike h.other in
        let f = first_of m kind logs vs me a b s t w replies x st h.office in
        let log : (lives_on w f.life).log ≡ log_seen s.log = f.log ∙ subst (λ (l : List (List Entry)). w.log ≡ log_seen (with_due s.term s.log l)) h.idle x.log in
        let low : (lives_on w f.life).applied ≤ s.commit = (let at = f.applied in let in_w = x.applied in let in_s = x.within in omega (arith, at, in_w, in_s)) in
        let l = goes_with m kind vs me s j (lives_on w f.life) f.ready log low st.front st.low other in
        let within : b.applied ≤ t.commit = (let at = h.applied in let in_s = x.within in let rise = st.rise in omega (arith, at, in_s, rise)) in
        lives_so m kind vs me joins a b i j letters replies s w h.step st (ends_with m kind vs me a b s t w replies logs x f l h.applied h.files) other h.due within h.machine
        (still_kept vs me a b i j letters q s w h.step h.snapshot x takes st) h.waiting
