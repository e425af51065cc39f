-- Snapshots that come and own ones are stretches of an event.
use Rattle.std.proofs.Common.{◌≡◌, ◌≢◌, inr, ⊎_elim, ℕ, zero, suc, ◌+◌, ◌-◌, ◌<◌, ◌≤◌, Bool, true, false, true≢false, List, [], ◌∷◌, ◌++◌, length, take, drop, refl, sym, ap, ◌∙◌, subst, arith, length-append, take-append-drop}
use Rattle.std.specs.Prelude.{Some}
use Rattle.std.proofs.lemmas.List.{drop_at, drop-drop, drop-take, length-replicate, length-take-le, take-append-le, take-take}
use Rattle.wire_msgs.specs.declared.request.Request.{Request}
use Rattle.sql_engine.specs.declared.kind.EngineKind.{EngineKind}
use Rattle.sql_engine.specs.Meanings.{Meaning}
use Rattle.session_spec.specs.Entries.{Entry as Line}
use Rattle.session_spec.specs.Events.{on_lost}
use Rattle.session_spec.specs.Machine.{machine_of, files}
use Rattle.session_spec.specs.Restarts.{restarted, shifted}
use Rattle.session_spec.specs.Seen.{log_seen}
use Rattle.session_spec.specs.Sessions.{Reply}
use Rattle.session_safety.specs.Nodes.{Node as Life, databases}
use Rattle.session_safety.specs.Life.{run_from as lives_on}
use Rattle.session_safety.specs.Answering.{Handled, handled_in}
use Rattle.raft_spec.specs.Log.{Entry, LogEnd}
use Rattle.raft_spec.specs.Node.{Node, Server, Message, Propose, Snapped, Input, Local, Receive, is_leader}
use Rattle.raft_spec.specs.NodeValues.{node_of}
use Rattle.raft_spec.specs.Outcomes.{with_term}
use Rattle.raft_spec.specs.Compaction.{compacted}
use Rattle.raft_safety.specs.Members.{Setup, configuration_from, configuration, member_step}
use Rattle.raft_safety.specs.Cuts.{AlikeInput}
use Rattle.applied_state.specs.Snapshot.{NodeSnapshot, SpellsSnapshot, contents_in, made_in, commits_of}
use Rattle.applied_state.specs.Laws.{SnapshotsRead}
use Rattle.cluster_model.specs.Clusters.{step_logs}
use Rattle.cluster_model.proofs.Lines.{size_of, seen_take}
use Rattle.node_spec.specs.Nodes.{SnapshotOf}
use Rattle.node_spec.specs.Steps.{Letter, calls}
use Rattle.node_spec.specs.Snapshots.{SnapshotIs}
use Rattle.node_spec.specs.Accounts.{Moment, resting, with_due, StandsAt, no_piece, taken_by}
use Rattle.node_spec.specs.RaftTurns.{Installs, InstallGoes, SnapServers, applied_behind, HasServers, RestingServers, SpellsApplied, SnapshotGoes}
use Rattle.node_spec.proofs.Ends.{begun}
use Rattle.node_spec.proofs.LostSessions.{climbs, lost_unshifted}
use Rattle.node_spec.proofs.RaftGoes.{Stepped, stepped_to, Ends, lives_so, still_lives, one_goes, Before, loses_first, stays_first, same_or_more, fit_both, no_proposal}
use Rattle.node_spec.proofs.RaftLives.{goes_with}
use Rattle.node_spec.proofs.RaftShapes.{Snapt, snapped_still}
use Rattle.node_spec.proofs.SnapshotSteps.{snapshots_come, snapshots_taken}
use Rattle.node_spec.proofs.Stretches.{lives_join, none_join, calls_join, handled_join, none_lent, none_used}
use Rattle.node_spec.proofs.Taking.{kept_stands}

some_same : {A : Type 0} {a b : A} → Some a ≡ Some b → a ≡ b
some_same q = cc

-- two snapshots that bytes encode are one
one_snapshot : SnapshotsRead → (x y : NodeSnapshot) (bytes : List ℕ) → SpellsSnapshot x bytes → SpellsSnapshot y bytes → x ≡ y
one_snapshot reads x y bytes a b = some_same (sym (reads x bytes a) ∙ reads y bytes b)

-- ---- what is applied

-- what is due follows the log
before_due : (term : ℕ) (log : List Entry) (due : List (List Entry)) (k : ℕ) → k ≤ length log → take k (with_due term log due) ≡ take k log
before_due term log [] k h = refl
before_due term log (es ∷ due) k h =
    let longer = length-append log (with_term term es) in
    before_due term (log ++ with_term term es) due k (omega (arith, h, longer)) ∙ take-append-le k log (with_term term es) h

-- the databases of a life are those of the front of the log that is applied
front_files : (vs : Setup) (a : Moment) (s : Node) (w : Life) → StandsAt vs a s w → s.commit ≤ length s.log → databases w ≡ files (log_seen (take a.applied s.log))
front_files vs a s w x long =
    let low : a.applied ≤ s.commit = x.within in
    ap files (ap (λ (k : ℕ). take k w.log) x.applied ∙ ap (take a.applied) x.log ∙ seen_take a.applied (with_due s.term s.log a.due) ∙ ap log_seen (before_due s.term s.log a.due a.applied (omega (arith, low, long))))

-- the configuration up to the snapshot
snap_servers : SnapshotsRead → (vs : Setup) (a : Moment) (s : Node) (w : Life) (servers : List Server) → StandsAt vs a s w → SnapServers vs a.node.kept.snap servers → servers ≡ configuration vs (take s.snapshot.index s.log)
unfolding configuration
snap_servers reads vs a s w servers x h = by s.snapshot.index refl
  where
    by : (i : ℕ) → s.snapshot.index ≡ i → servers ≡ configuration_from vs vs.opening (take s.snapshot.index s.log)
    by zero e = h.none (x.kept.index ∙ e) ∙ ap (λ (k : ℕ). configuration_from vs vs.opening (take k s.log)) (sym e)
    by (suc i) e =
        let some : 0 < s.snapshot.index = omega (arith, e) in
        let there : 0 < a.node.kept.snap.index = (let at = x.kept.index in omega (arith, at, e)) in
        let mine = h.some there in
        ap (λ (z : NodeSnapshot). z.servers) (one_snapshot reads (record { servers = servers; contents = mine.0 }) (made_in vs (take s.snapshot.index s.log)) a.node.kept.snap.bytes mine.1 (x.kept.bytes some))

conf_append : (vs : Setup) (c : List Server) (xs ys : List Entry) → configuration_from vs c (xs ++ ys) ≡ configuration_from vs (configuration_from vs c xs) ys
conf_append vs c [] ys = refl
conf_append vs c (e ∷ xs) ys = conf_append vs _ xs ys

-- the configuration up to an index after the snapshot, by the entries that the node holds
behind_snapshot : (vs : Setup) (a : Moment) (s : Node) (w : Life) → StandsAt vs a s w → a.node.raft.snapshot.index ≤ a.applied →
    configuration vs (take a.applied s.log) ≡ configuration_from vs (configuration vs (take s.snapshot.index s.log)) (applied_behind a)
unfolding configuration
behind_snapshot vs a s w x low =
    let r = a.node.raft in
    let i = s.snapshot.index in
    let at : r.snapshot.index ≡ i = ap (λ (z : Node). z.snapshot.index) x.twin.node in
    let cut : r.base ≡ s.base = ap (λ (z : Node). z.base) x.twin.node in
    let log : compacted r.snapshot r.base ++ r.entries ≡ x.twin.log = ap (λ (z : Node). z.log) x.twin.node in
    let held : r.entries ≡ drop s.base s.log =
    sym (drop_at (compacted r.snapshot r.base) r.entries r.base (length-replicate r.base _)) ∙ ap (drop r.base) log ∙ ap (λ (b : ℕ). drop b x.twin.log) cut ∙ sym x.twin.same.rest in
    let low_base : r.base ≤ r.snapshot.index = x.raft.low in
    let sum : s.base + (i - s.base) ≡ i = omega (arith, at, cut, low_base) in
    let rest : drop (r.snapshot.index - r.base) r.entries ≡ drop i s.log =
    ap (λ (n : ℕ). drop (n - r.base) r.entries) at ∙ ap (λ (n : ℕ). drop (i - n) r.entries) cut ∙ ap (drop (i - s.base)) held ∙ drop-drop (i - s.base) s.base s.log ∙ ap (λ (n : ℕ). drop n s.log) sum in
    let total : i + (a.applied - i) ≡ a.applied = omega (arith, at, low) in
    let front : take i (take a.applied s.log) ≡ take i s.log = take-take i a.applied s.log (omega (arith, at, low)) in
    let back : drop i (take a.applied s.log) ≡ take (a.applied - i) (drop i s.log) = ap (λ (n : ℕ). drop i (take n s.log)) (sym total) ∙ drop-take i (a.applied - i) s.log in
    let whole : take a.applied s.log ≡ take i s.log ++ take (a.applied - i) (drop i s.log) =
    sym (take-append-drop i (take a.applied s.log)) ∙ ap (λ (l : List Entry). l ++ drop i (take a.applied s.log)) front ∙ ap (λ (l : List Entry). take i s.log ++ l) back in
    ap (configuration_from vs vs.opening) whole
    ∙ conf_append vs vs.opening (take i s.log) (take (a.applied - i) (drop i s.log))
    ∙ ap (λ (l : List Entry). configuration_from vs (configuration_from vs vs.opening (take i s.log)) (take (a.applied - i) l)) (sym rest)
    ∙ ap (λ (n : ℕ). configuration_from vs (configuration_from vs vs.opening (take i s.log)) (take (a.applied - n) (drop (r.snapshot.index - r.base) r.entries))) (sym at)

-- the applied configuration
pub applied_servers : SnapshotsRead → (vs : Setup) (a : Moment) (s : Node) (w : Life) (servers : List Server) → StandsAt vs a s w → HasServers vs a servers → servers ≡ configuration vs (take a.applied s.log)
applied_servers reads vs a s w servers x h =
    h.is ∙ ap (λ (c : List Server). configuration_from vs c (applied_behind a)) (snap_servers reads vs a s w h.first x h.snap) ∙ sym (behind_snapshot vs a s w x h.low)

-- and that of a node at rest
pub resting_servers_hold : RestingServers
unfolding configuration
resting_servers_hold vs n s w stands counts at =
    let x = begun vs n s w stands in
    let low : n.raft.snapshot.index ≤ n.raft.commit = stands.raft.applied in
    record {
      low = low;
      first = configuration vs (take s.snapshot.index s.log);
      snap = record {
        none = λ none. ap (λ (k : ℕ). configuration vs (take k s.log)) (sym stands.kept.index ∙ none);
        some = λ some. (
          contents_in (files (log_seen (take s.snapshot.index s.log))),
          stands.kept.bytes (subst (λ (k : ℕ). 0 < k) stands.kept.index some),
        );
      };
      is = counts.members.servers ∙ ap (λ (k : ℕ). configuration vs (take k s.log)) at ∙ behind_snapshot vs (resting n) s w x low;
    }

-- the bytes of an own snapshot are those of the front of the log that is applied
pub spells_front : SnapshotsRead → (vs : Setup) (a : Moment) (index : ℕ) (bytes : List ℕ) (s : Node) (w : Life) → StandsAt vs a s w → s.commit ≤ length s.log → SpellsApplied vs a index bytes → SnapshotOf vs (take index s.log) bytes
spells_front reads vs a index bytes s w x long h =
    let low : a.applied ≤ s.commit = x.within in
    let size : length (take a.applied s.log) ≡ a.applied = length-take-le a.applied s.log (omega (arith, low, long)) in
    let shown : files (log_seen (take a.applied s.log)) ≡ restarted x.lacks x.since (machine_of a.node.machine) = sym (front_files vs a s w x long) ∙ x.files in
    subst (λ (k : ℕ). SnapshotOf vs (take k s.log) bytes) (sym h.at)
    (h.front x.lacks (take a.applied s.log) (h.at ∙ sym size) (applied_servers reads vs a s w h.servers x h.has) (x.since, shown))

-- ---- an own snapshot

abbrev pub IsSnapped : ℕ → Input → Type 0
IsSnapped index i = i ≡ Local (Snapped index)

pub snapped_is : (j : Input) (index : ℕ) → AlikeInput j (Local (Snapped index)) → j ≡ Local (Snapped index)
snapped_is (Local local) index alike = sym alike
snapped_is (Receive m) index alike = absurd (wrong _ _ alike.1)
  where
    wrong : (local : _) (k : Message) → Local local ≡ Receive k → ⊥
    wrong local k e = cc

pub snapshot_goes_holds : SnapshotsRead → (m : Meaning) (kind : EngineKind) → SnapshotGoes m kind
snapshot_goes_holds reads m kind vs me bytes joins a b index letters h = one_goes m kind vs me bytes joins a b (Local (Snapped index)) letters [] h.step
    (λ s w j alike x takes told.
    let i : Input = Local (Snapped index) in
    let q = taken_by bytes joins (record no_piece { inputs = i ∷ []; letters = letters }) in
    let st = stepped_to vs me a (node_of b.node.raft) i j q s w h.step.made x refl takes told in
    let t = (member_step vs me s j).node in
    let is : j ≡ i = snapped_is j index alike in
    let past : s.snapshot.index < index = (let was = h.spells.past in let e : a.node.raft.snapshot.index ≡ s.snapshot.index = ap (λ (z : LogEnd). z.index) st.snapshot in omega (arith, was, e)) in
    let high : index ≤ s.commit = (let at = h.spells.at in let low = x.within in omega (arith, at, low)) in
    let z : Snapt s t index = subst (λ (k : Input). Snapt s (member_step vs me s k).node index) (sym is) (snapped_still vs me s index past high) in
    let spelled = spells_front reads vs a index b.node.kept.snap.bytes s w x st.front.0 h.spells in
    still_lives m kind vs me joins a b i j letters s w h.step x st z.still (λ es e. differs es (sym is ∙ e)) h.due h.rest
    (kept_stands vs b.node.kept b.node.raft t st.twin h.step.kept (snapshots_taken vs me a.node s (j ∷ []) q 0 index b.node.kept.snap.bytes takes high z.index_is spelled)))
  where
    differs : (es : List Entry) → Local (Snapped index) ≡ Local (Propose es) → ⊥
    differs es e = cc

-- ---- a snapshot that comes

pub record IsReceived (j : Input) : Type 0 where
  pub message : Message
  pub is : j ≡ Receive message

pub received_is : (j : Input) (m : Message) → AlikeInput j (Receive m) → IsReceived j
received_is (Local local) m alike = absurd (wrong local alike)
  where
    wrong : (local : _) → Receive m ≡ Local local → ⊥
    wrong local e = cc
received_is (Receive k) m alike = record { message = k; is = refl }

-- the leadership before it, or the waiting for one
install_first : (m : Meaning) (kind : EngineKind) (logs : ℕ → List Line) (vs : Setup) (me : ℕ) (a b : Moment) (bytes : List ℕ) (message : Message) (letters : List Letter) (s t : Node) (w : Life) (replies : List (ℕ × Reply)) (x : StandsAt vs a s w) →
    Stepped vs me a s t (node_of b.node.raft) → Installs vs me a b bytes message letters replies → is_leader t.role ≡ false → Before m kind logs a b t w x.lacks replies
install_first m kind logs vs me a b bytes message letters s t w replies x st h down = ⊎_elim
    (λ (e : t.term ≡ s.term).
    let below : is_leader a.node.raft.role ≡ false = by e (is_leader s.role) refl in
    let ended = h.ended below in
    let served = h.unserved below in
    stays_first m kind logs a b s t w replies vs x
    (record { term = x.term ∙ sym e; office = inr (x.leads ∙ sym st.leads ∙ below, x.serving ∙ served) })
    (h.sessions ∙ ended.ended) (h.serving (st.leads_after ∙ down) ∙ sym served) (h.tells ∙ ended.told))
    (λ (l : s.term < t.term). loses_first m kind logs a b s t w replies vs x l h.sessions (h.serving (st.leads_after ∙ down)) h.tells)
    (same_or_more s.term t.term st.shape.up)
  where
    by : t.term ≡ s.term → (c : Bool) → is_leader s.role ≡ c → is_leader a.node.raft.role ≡ false
    by e true up = absurd (true≢false (sym (st.shape.leads up e) ∙ down))
    by e false low = st.leads ∙ low

-- and then the log is followed, and all entries up to the snapshot are applied
install_ends : (m : Meaning) (kind : EngineKind) (vs : Setup) (me : ℕ) (a b : Moment) (bytes : List ℕ) (message : Message) (letters : List Letter) (s : Node) (j : Input) (w : Life) (replies : List (ℕ × Reply)) → StandsAt vs a s w →
    let t = (member_step vs me s j).node in Stepped vs me a s t (node_of b.node.raft) → Installs vs me a b bytes message letters replies → s.commit < t.snapshot.index → t.snapshot.index ≤ t.commit → ((es : List Entry) → j ≢ Local (Propose es)) →
    SpellsSnapshot (made_in vs (take t.snapshot.index t.log)) bytes → Ends m kind (step_logs vs me s (j ∷ [])) b t w replies
install_ends m kind vs me a b bytes message letters s j w replies x st h past upto other made =
    let t = (member_step vs me s j).node in
    let logs = step_logs vs me s (j ∷ []) in
    let down : is_leader t.role ≡ false = st.shape.comes st.low past in
    let f = install_first m kind logs vs me a b bytes message letters s t w replies x st h down in
    let v = lives_on w f.life in
    let log : v.log ≡ log_seen s.log = f.log ∙ subst (λ (l : List (List Entry)). w.log ≡ log_seen (with_due s.term s.log l)) h.idle x.log in
    let at : v.applied ≡ a.applied = f.applied ∙ x.applied in
    let in_s : a.applied ≤ s.commit = x.within in
    let l = goes_with m kind vs me s j v f.ready log (omega (arith, at, in_s)) st.front st.low other in
    let u = lives_on v l.life in
    let gate : u.gate ≡ shifted x.lacks (on_lost a.node.sessions) = l.gate ∙ f.sessions ∙ ap (shifted x.lacks) h.sessions in
    let count = t.snapshot.index - u.applied in
    let here : u.applied ≡ a.applied = l.applied ∙ at in
    let size : length u.log ≡ length t.log = ap length l.log_is ∙ size_of t.log in
    let within : t.commit ≤ length t.log = st.within in
    let c = climbs m kind logs x.lacks a.node.sessions count u gate (omega (arith, here, in_s, past, upto, within, size)) in
    let z = lives_on u c.life in
    let index : b.applied ≡ t.snapshot.index = h.applied ∙ ap (λ (e : LogEnd). e.index) st.snapshot_after in
    let applied : z.applied ≡ t.snapshot.index = c.applied ∙ omega (arith, here, in_s, past) in
    let on : lives_on w (f.life ++ (l.life ++ c.life)) ≡ z = lives_join w f.life (l.life ++ c.life) ∙ lives_join v l.life c.life in
    let front : List Entry = take t.snapshot.index t.log in
    let at_end : t.snapshot.index ≡ b.node.raft.snapshot.index = sym (ap (λ (e : LogEnd). e.index) st.snapshot_after) in
    let long : length front ≡ t.snapshot.index = length-take-le t.snapshot.index t.log (omega (arith, upto, within)) in
    let shows = h.shows front (long ∙ at_end) made in
    let show_files : databases z ≡ files (log_seen front) = ap files (ap (λ (k : ℕ). take k z.log) applied ∙ ap (take t.snapshot.index) (c.log ∙ l.log_is) ∙ seen_take t.snapshot.index t.log) in
    record {
      life = f.life ++ (l.life ++ c.life);
      fits = fit_both m kind logs w f.life (l.life ++ c.life) f.fits (fit_both m kind logs v l.life c.life l.fits c.fits);
      log = ap (λ (y : Life). y.log) on ∙ c.log ∙ l.log_is;
      applied = ap (λ (y : Life). y.applied) on ∙ applied ∙ sym index;
      term = ap (λ (y : Life). y.term) on ∙ c.term ∙ l.term_is;
      leads = ap (λ (y : Life). y.leads) on ∙ c.leads ∙ l.leads_is;
      serving = ap (λ (y : Life). y.serving) on ∙ c.serving ∙ l.serving ∙ f.serving;
      lacks = commits_of front;
      since = shows.0;
      files = ap databases on ∙ show_files ∙ shows.1;
      sessions = ap (λ (y : Life). y.gate) on ∙ c.gate ∙ gate ∙ lost_unshifted x.lacks (commits_of front) a.node.sessions ∙ ap (shifted (commits_of front)) (sym h.sessions);
      said = ap (λ (y : Life). y.said) on ∙ c.said ∙ l.said ∙ f.said;
      none = λ conn. none_join conn f.life (l.life ++ c.life) (f.none conn) (none_join conn l.life c.life (l.none conn) (c.none conn));
      calls_none = λ conn. calls_join conn f.life (l.life ++ c.life) ∙ ap (λ (e : List Request). e ++ calls conn (l.life ++ c.life)) (f.calls_none conn) ∙ calls_join conn l.life c.life ∙ ap (λ (e : List Request). e ++ calls conn c.life) (l.calls_none conn) ∙ c.calls_none conn;
      handled = λ conn. handled_join conn w f.life (l.life ++ c.life) ∙ ap (λ (e : List Handled). e ++ handled_in conn v (l.life ++ c.life)) (f.handled conn) ∙ handled_join conn v l.life c.life ∙ ap (λ (e : List Handled). e ++ handled_in conn u c.life) (l.handled conn) ∙ c.handled conn;
      lends = none_lent w f.life (l.life ++ c.life) f.lends (none_lent v l.life c.life l.lends c.lends);
      uses = none_used w f.life (l.life ++ c.life) f.uses (none_used v l.life c.life l.uses c.uses);
    }

pub install_goes_holds : (m : Meaning) (kind : EngineKind) → InstallGoes m kind
install_goes_holds m kind vs me bytes joins a b message letters replies h = one_goes m kind vs me bytes joins a b (Receive message) letters replies h.step
    (λ s w j alike x takes told.
    let i : Input = Receive message in
    let q = taken_by bytes joins (record no_piece { inputs = i ∷ []; letters = letters; replies = replies }) in
    let st = stepped_to vs me a (node_of b.node.raft) i j q s w h.step.made x refl takes told in
    let t = (member_step vs me s j).node in
    let r = received_is j message alike in
    let index : b.node.raft.snapshot.index ≡ t.snapshot.index = ap (λ (e : LogEnd). e.index) st.snapshot_after in
    let past : s.commit < t.snapshot.index = (let came = h.comes in let at = st.commit in omega (arith, came, at, index)) in
    let upto : t.snapshot.index ≤ t.commit = (let low = h.step.coherent.applied in let e : b.node.raft.commit ≡ t.commit = ap (λ (z : Node). z.commit) st.twin.node in omega (arith, low, e, index)) in
    let snap : SnapshotIs vs t bytes = snapshots_come vs me a.node s (j ∷ []) q 0 r.message takes (ap (λ (k : Input). Some k) r.is) st.low past in
    let some : 0 < t.snapshot.index = omega (arith, past) in
    let other = no_proposal j i alike tt in
    lives_so m kind vs me joins a b i j letters replies s w h.step st (install_ends m kind vs me a b bytes message letters s j w replies x st h past upto other (snap some)) other h.due (let e : b.applied ≡ b.node.raft.snapshot.index = h.applied in omega (arith, e, index, upto)) h.machine
    (kept_stands vs b.node.kept b.node.raft t st.twin h.step.kept (subst (SnapshotIs vs t) (sym h.kept) snap)) h.waiting)
