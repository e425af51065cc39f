-- An entry that is applied is a stretch of an event, in which clients are told whose proposals it ends.
use Rattle.std.proofs.Common.{◌≡◌, ℕ, zero, suc, ◌-◌, ◌<◌, ◌≤◌, Bool, true, false, true≢false, List, [], ◌∷◌, ◌++◌, length, take, drop, refl, sym, ap, ◌∙◌, subst, arith}
use Rattle.std.specs.Prelude.{map, cond, ◌==◌, slice_get, Option, Some, None}
use Rattle.std.specs.List.{flat_map, filter}
use Rattle.std.proofs.lemmas.Bool.{cond_both}
use Rattle.std.proofs.lemmas.List.{map-append, drop_at, length-replicate}
use Rattle.sql_engine.specs.declared.kind.EngineKind.{EngineKind}
use Rattle.sql_engine.specs.Meanings.{Meaning}
use Rattle.database_state.specs.declared.database.Database.{Database}
use Rattle.database_state.specs.Machines.{IsMachine}
use Rattle.session_spec.specs.Entries.{Content, Does, Configures, Other}
use Rattle.session_spec.specs.Events.{tidy, settled_by, on_applied, landed_reply, told_to, told_by, told_applied, lost, on_lost}
use Rattle.session_spec.specs.Machine.{Machine, machine_of, done, files}
use Rattle.session_spec.specs.Restarts.{restarted, shifted}
use Rattle.session_spec.specs.Seen.{entry_seen, log_seen}
use Rattle.session_spec.specs.Sessions.{Reply, Kind, Opening, Configuring, Writing, Committing, Querying, Flight, Session, Gateway}
use Rattle.session_spec.proofs.Following.{machines_follow_hold}
use Rattle.session_spec.proofs.RestartedEvents.{events_shift_hold, commands_restart_hold}
use Rattle.session_safety.specs.Nodes.{Trail, Node as Life, databases}
use Rattle.session_safety.specs.Life.{Apply, said_landed, said_by, said_applied, happens}
use Rattle.session_safety.proofs.Files.{files_append}
use Rattle.raft_spec.specs.Log.{Entry}
use Rattle.raft_spec.specs.Node.{Node}
use Rattle.raft_spec.specs.NodeValues.{NodeValue, IsCoherent, node_of}
use Rattle.raft_spec.specs.Account.{stored_of}
use Rattle.raft_spec.specs.Compaction.{compacted}
use Rattle.raft_safety.specs.Cuts.{Twin}
use Rattle.store_laws.specs.Store.{Kept}
use Rattle.cluster_model.specs.Clusters.{InTerm}
use Rattle.cluster_model.proofs.Lines.{size_of, seen_take}
use Rattle.applied_state.specs.Applied.{databases_after}
use Rattle.node_spec.specs.Nodes.{KeptIs}
use Rattle.node_spec.specs.Steps.{told, IsServed}
use Rattle.node_spec.specs.Accounts.{with_due}
use Rattle.node_spec.specs.ClientTurns.{ApplyingGoes, EndedStay}
use Rattle.node_spec.proofs.Ends.{before_due}
use Rattle.node_spec.proofs.Moving.{quiet_goes, due_stays, part_same, all_same}
use Rattle.node_spec.proofs.Owing.{due_longer}
use Rattle.node_spec.proofs.Stretches.{term_join}

-- ---- the next entry

get_past : {A : Type 0} (b k : ℕ) (l : List A) → b ≤ k → slice_get (drop b l) (k - b) ≡ slice_get l k
get_past zero k l h = ap (slice_get l) (same k)
  where
    same : (k : ℕ) → k - 0 ≡ k
    same k = omega arith
get_past (suc b) k [] h = refl
get_past (suc b) zero (x ∷ l) h = absurd (omega arith)
get_past (suc b) (suc k) (x ∷ l) h =
    let less : suc k - suc b ≡ k - b = omega arith in
    ap (slice_get (drop b l)) less ∙ get_past b k l (omega (arith, h))

take_next : {A : Type 0} (k : ℕ) (l : List A) (e : A) → slice_get l k ≡ Some e → take (suc k) l ≡ take k l ++ e ∷ []
take_next k [] e h = absurd cc
take_next zero (x ∷ l) e h = let same : x ≡ e = cc in ap (λ y. y ∷ []) same
take_next (suc k) (x ∷ l) e h = ap (λ r. x ∷ r) (take_next k l e h)

-- what isn't compacted of a node is what its twin has there
pub entries_are : (h : NodeValue) (t : Node) → Twin t (node_of h) → (h.base ≡ t.base) × (h.entries ≡ drop t.base t.log)
entries_are h t twin =
    let base : h.base ≡ t.base = ap (λ (z : Node). z.base) twin.node in
    let log : compacted h.snapshot h.base ++ h.entries ≡ twin.log = ap (λ (z : Node). z.log) twin.node in
    (base, sym (drop_at (compacted h.snapshot h.base) h.entries h.base (length-replicate h.base _)) ∙ ap (drop h.base) log ∙ ap (λ b. drop b twin.log) base ∙ sym twin.same.rest)

-- the entry is in the whole log
entry_at : (h : NodeValue) (t : Node) (k : ℕ) (e : Entry) → Twin t (node_of h) → h.base ≤ k → slice_get h.entries (k - h.base) ≡ Some e → slice_get t.log k ≡ Some e
entry_at h t k e twin low is =
    let r = entries_are h t twin in
    let there : slice_get (drop t.base t.log) (k - t.base) ≡ Some e = subst (λ b. slice_get (drop t.base t.log) (k - b) ≡ Some e) r.0 (subst (λ (l : List Entry). slice_get l (k - h.base) ≡ Some e) r.1 is) in
    sym (get_past t.base k t.log (subst (λ b. b ≤ k) r.0 low)) ∙ there

-- ---- databases

one_done : (ds : List Database) (content : Content) → IsMachine ds → done (machine_of ds) content ≡ machine_of (databases_after ds content)
one_done ds (Does command) stand = sym (machines_follow_hold ds command stand)
one_done ds (Configures servers) stand = refl
one_done ds Other stand = refl

again : (lacks since : List ℕ → ℕ) (m : Machine) (content : Content) → (later : List ℕ → ℕ) × (done (restarted lacks since m) content ≡ restarted lacks later (done m content))
again lacks since m (Does command) = commands_restart_hold lacks since m command
again lacks since m (Configures servers) = (since, refl)
again lacks since m Other = (since, refl)

-- ---- who is informed

told_kind : (conn : ℕ) (t : Trail) (f : Flight) (k : Kind) → map told (said_landed conn t f k) ≡ told_to conn (landed_reply k)
told_kind conn t f Opening = refl
told_kind conn t f (Configuring short) = refl
told_kind conn t f (Writing reply) = refl
told_kind conn t f Committing = refl
told_kind conn t f (Querying statement) = refl

told_ends : (conn : ℕ) (t : Trail) (f : Flight) (ends hung : Bool) → map told (cond ends (cond hung [] (said_landed conn t f f.kind)) []) ≡ cond ends (cond hung [] (told_to conn (landed_reply f.kind))) []
told_ends conn t f false hung = refl
told_ends conn t f true true = refl
told_ends conn t f true false = told_kind conn t f f.kind

told_one : (index conn : ℕ) (t : Trail) (s : Session) (o : Option Flight) → map told (said_by index conn t s.hung o) ≡ told_by index conn s o
told_one index conn t s None = refl
told_one index conn t s (Some f) = told_ends conn t f (f.last == index) s.hung

told_each : (index : ℕ) (trail : ℕ → Trail) (session : ℕ → Session) (conns : List ℕ) → map told (said_applied index trail session conns) ≡ flat_map (λ (conn : ℕ). told_by index conn (session conn) (session conn).flight) conns
told_each index trail session [] = refl
told_each index trail session (conn ∷ conns) =
    map-append told (said_by index conn (trail conn) (session conn).hung (session conn).flight) (said_applied index trail session conns)
    ∙ ap (λ (rs : List (ℕ × Reply)). rs ++ map told (said_applied index trail session conns)) (told_one index conn (trail conn) (session conn) (session conn).flight)
    ∙ ap (λ (rs : List (ℕ × Reply)). told_by index conn (session conn) (session conn).flight ++ rs) (told_each index trail session conns)

told_all : (index : ℕ) (trail : ℕ → Trail) (g : Gateway) → map told (said_applied index trail g.session g.conns) ≡ told_applied index g
unfolding told_applied
told_all index trail g = told_each index trail g.session g.conns

-- what is reported is of the term in which the node serves
landed_in : (w : Life) (conn : ℕ) (t : Trail) (f : Flight) (k : Kind) → (f.term ≡ w.term) × (w.leads ≡ true) → InTerm w (said_landed conn t f k)
landed_in w conn t f Opening h = ((λ some. h), tt)
landed_in w conn t f (Configuring short) h = ((λ some. h), tt)
landed_in w conn t f (Writing reply) h = ((λ some. h), tt)
landed_in w conn t f Committing h = ((λ some. h), tt)
landed_in w conn t f (Querying statement) h = tt

one_in : (w : Life) (index conn : ℕ) (t : Trail) (hung serving : Bool) (o : Option Flight) → (serving ≡ true → w.leads ≡ true) → IsServed w.term serving o → InTerm w (said_by index conn t hung o)
one_in w index conn t hung serving None leads h = tt
one_in w index conn t hung serving (Some f) leads h =
    cond_both (f.last == index) (cond hung [] (said_landed conn t f f.kind)) [] (InTerm w)
    (λ e. cond_both hung [] (said_landed conn t f f.kind) (InTerm w) (λ u. tt) (λ u. landed_in w conn t f f.kind (h.0, leads h.1)))
    (λ e. tt)

each_in : (w : Life) (index : ℕ) (trail : ℕ → Trail) (session : ℕ → Session) (serving : Bool) (conns : List ℕ) → (serving ≡ true → w.leads ≡ true) → ((conn : ℕ) → IsServed w.term serving (session conn).flight) → InTerm w (said_applied index trail session conns)
each_in w index trail session serving [] leads h = tt
each_in w index trail session serving (conn ∷ conns) leads h =
    term_join w (said_by index conn (trail conn) (session conn).hung (session conn).flight) (said_applied index trail session conns)
    (one_in w index conn (trail conn) (session conn).hung serving (session conn).flight leads (h conn)) (each_in w index trail session serving conns leads h)

-- ---- the stretch

pub applying_goes_holds : (m : Meaning) (kind : EngineKind) → ApplyingGoes m kind
unfolding happens
applying_goes_holds m kind vs n bytes joins a b replies x = quiet_goes m kind vs n bytes joins a b (λ conn. []) replies [] true x.raft (λ s w st long.
    let k = a.applied in
    let i = suc k in
    let content = (entry_seen x.entry).content in
    let commit : a.node.raft.commit ≡ s.commit = ap (λ (z : Node). z.commit) st.twin.node in
    let more : k < a.node.raft.commit = x.more in
    let at : slice_get s.log k ≡ Some x.entry = entry_at a.node.raft s k x.entry st.twin x.held x.is in
    let low : suc k ≤ length s.log = omega (arith, more, commit, long) in
    let front : (j : ℕ) → j ≤ length s.log → take j w.log ≡ log_seen (take j s.log) = λ j h. ap (take j) st.log ∙ seen_take j (with_due s.term s.log a.due) ∙ ap log_seen (before_due s.term s.log a.due j h) in
    let next : take i w.log ≡ log_seen (take k s.log) ++ entry_seen x.entry ∷ [] = front i low ∙ ap log_seen (take_next k s.log x.entry at) ∙ map-append entry_seen (take k s.log) (x.entry ∷ []) in
    let was : files (log_seen (take k s.log)) ≡ databases w = ap files (sym (front k (omega (arith, low)))) ∙ ap (λ j. files (take j w.log)) (sym st.applied) in
    let later = again st.lacks st.since (machine_of a.node.machine) content in
    let now : databases (happens w Apply) ≡ restarted st.lacks later.0 (machine_of b.node.machine) =
    ap (λ j. files (take (suc j) w.log)) st.applied ∙ ap files next ∙ files_append (log_seen (take k s.log)) (entry_seen x.entry ∷ [])
    ∙ ap (λ (z : Machine). done z content) (was ∙ st.files) ∙ later.1 ∙ ap (restarted st.lacks later.0) (one_done a.node.machine content x.stood ∙ sym x.files) in
    let due = due_stays vs a b s w st x.same.due in
    let shift = events_shift_hold st.lacks a.node.sessions in
    let said = said_applied (suc w.applied) w.trail w.gate.session w.gate.conns in
    record {
      life = Apply ∷ [];
      said = said;
      weaves = tt;
      fits = (
        (let size : length w.log ≡ length (with_due s.term s.log a.due) = ap length st.log ∙ size_of (with_due s.term s.log a.due) in
            let longer = due_longer s.term s.log a.due in
            let index = st.applied in
            omega (arith, size, longer, index, low)),
        tt,
      );
      stands = record {
        twin = subst (λ (h : NodeValue). Twin s (node_of h)) (sym x.raft) st.twin;
        raft = subst (λ (h : NodeValue). IsCoherent h) (sym x.raft) st.raft;
        up = st.up;
        log = due.0;
        weaves = due.1;
        applied = ap suc st.applied ∙ sym x.applied;
        within = (let index = x.applied in omega (arith, index, more, commit));
        term = st.term;
        leads = st.leads;
        serving = st.serving ∙ sym x.serving;
        machine = x.machine;
        lacks = st.lacks;
        since = later.0;
        files = now;
        sessions = ap (λ j. on_applied (suc j) w.gate) st.applied ∙ ap (on_applied i) st.sessions ∙ shift.applied i ∙ ap (shifted st.lacks) (sym x.sessions);
        kept = subst (λ (h : Kept). KeptIs vs h (stored_of s)) (sym x.kept) st.kept;
      };
      says = refl;
      replies = x.says ∙ sym (shift.told_applied i) ∙ ap (told_applied i) (sym st.sessions) ∙ ap (λ j. told_applied (suc j) w.gate) (sym st.applied) ∙ sym (told_all (suc w.applied) w.trail w.gate);
      lends = refl;
      uses = refl;
      terms = λ f. each_in (happens w Apply) (suc w.applied) w.trail w.gate.session w.serving w.gate.conns f.leads f.flights;
      early = λ z. absurd (true≢false z);
      joined = λ conn z. ((λ q. cc), tt);
      handles = λ conn. part_same (b.node.waiting conn) (a.node.waiting conn) (x.same.waiting conn);
      completes = λ conn o z. record { all = all_same (b.node.waiting conn) (a.node.waiting conn) (x.same.waiting conn); handled = refl };
    })

-- ---- sessions in which nothing is pending

record Ended (g : Gateway) : Type 0 where
  conns : filter (λ (conn : ℕ). (lost (g.session conn)).there) g.conns ≡ g.conns
  session : (conn : ℕ) → lost (g.session conn) ≡ g.session conn

ended_at : (g : Gateway) → on_lost g ≡ g → Ended g
unfolding on_lost tidy
ended_at g e = record { conns = ap (λ (z : Gateway). z.conns) e; session = λ conn. ap (λ (z : Gateway). z.session conn) e }

lost_lands : (s : Session) → (lost s).flight ≡ None
lost_lands s = cond_both s.hung _ _ (λ (z : Session). z.flight ≡ None) (λ e. refl) (λ e. refl)

settles_none : (index : ℕ) (s : Session) (o : Option Flight) → o ≡ None → settled_by index s o ≡ s
settles_none index s None e = refl
settles_none index s (Some f) e = absurd cc

tells_none : (index conn : ℕ) (s : Session) (o : Option Flight) → o ≡ None → told_by index conn s o ≡ []
tells_none index conn s None e = refl
tells_none index conn s (Some f) e = absurd cc

none_told : (index : ℕ) (session : ℕ → Session) → ((conn : ℕ) → (session conn).flight ≡ None) → (conns : List ℕ) → flat_map (λ (conn : ℕ). told_by index conn (session conn) (session conn).flight) conns ≡ []
none_told index session h [] = refl
none_told index session h (conn ∷ conns) = ap (λ (l : List (ℕ × Reply)). l ++ flat_map (λ (conn : ℕ). told_by index conn (session conn) (session conn).flight) conns) (tells_none index conn (session conn) (session conn).flight (h conn)) ∙ none_told index session h conns

tidy_both : (g : Gateway) (f h : ℕ → Session) → ((conn : ℕ) → f conn ≡ h conn) → tidy g f ≡ tidy g h
tidy_both g f h e = ap (tidy g) (λ i. λ conn. e conn i)

pub ended_stay_holds : EndedStay
unfolding on_lost on_applied told_applied
ended_stay_holds index g e =
    let r = ended_at g e in
    let free : (conn : ℕ) → (g.session conn).flight ≡ None = λ conn. ap (λ (s : Session). s.flight) (sym (r.session conn)) ∙ lost_lands (g.session conn) in (
      tidy_both g (λ conn. settled_by index (g.session conn) (g.session conn).flight) (λ conn. lost (g.session conn)) (λ conn. settles_none index (g.session conn) (g.session conn).flight (free conn) ∙ sym (r.session conn)) ∙ e,
      none_told index g.session free g.conns,
    )
