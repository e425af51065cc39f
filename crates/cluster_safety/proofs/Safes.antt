-- A run that represents acts that fit is safe.
use Rattle.std.proofs.Common.{◌≡◌, ℕ, ◌+◌, ◌-◌, ◌<◌, ◌≤◌, List, [], ◌∷◌, ◌++◌, length, take, drop, refl, sym, ap, ◌∙◌, subst, ⊎_elim, arith, length-append}
use Rattle.std.proofs.Math.Seq.{drop-append_seam}
use Rattle.std.proofs.lemmas.Bool.{cases_lt}
use Rattle.std.proofs.lemmas.List.{length-replicate, length-take, drop_all, drop-take, take-take, drop-map, take-map, length-map}
use Rattle.sql_engine.specs.declared.kind.EngineKind.{EngineKind}
use Rattle.sql_engine.specs.Meanings.{Meaning}
use Rattle.session_spec.specs.Machine.{Machine, machine_of, files}
use Rattle.session_spec.specs.Seen.{entry_seen, log_seen}
use Rattle.session_safety.specs.Nodes.{Said, Node as Life}
use Rattle.raft_spec.specs.Log.{Barrier, Entry, LogEnd}
use Rattle.raft_spec.specs.Node as raft
use Rattle.raft_spec.specs.NodeValues.{NodeValue, node_of}
use Rattle.raft_spec.specs.Compaction.{compacted}
use Rattle.raft_safety.specs.Chosen.{chosen}
use Rattle.raft_safety.specs.Cuts.{Twin, AlikeWhat}
use Rattle.raft_safety.specs.Sources.{WhatFront}
use Rattle.raft_safety.specs.World.{run as raft_run}
use Rattle.std.specs.Prelude.{Option, Some, None, slice_get}
use Rattle.node_spec.specs.Steps.{Letter, FrontIs}
use Rattle.cluster_safety.proofs.Letters.{Found, found}
use Rattle.raft_safety.specs.Laws.{node_at}
use Rattle.raft_safety.specs.Members.{Setup, configuration}
use Rattle.raft_safety.proofs.Chosens.{applied_chosen_holds}
use Rattle.raft_safety.proofs.SnapFronts.{snapshot_fronts_hold}
use Rattle.cluster_model.specs.Clusters.{Act, cluster}
use Rattle.cluster_model.specs.Laws.{AllStand, chosen_seen}
use Rattle.cluster_model.proofs.Clusters.{clusters_are_safe_hold}
use Rattle.node_spec.specs.Nodes.{Node, Stands}
use Rattle.session_spec.specs.Restarts.{restarted}
use Rattle.cluster_safety.specs.Runs.{Up, Run, kept_at, run}
use Rattle.cluster_safety.specs.Acts.{LetterIs, PlaceIs, RunIs}
use Rattle.cluster_safety.specs.Laws.{SameFiles, applied, HasFront, Knows, AllStandIn, SafeRun, RunsAreSafe, KeepsOf}
use Rattle.cluster_safety.proofs.Runs.{kept_of, keeps_front, runs_make_acts_hold}

same_of : (lacks since : List ℕ → ℕ) (a b : Machine) → restarted lacks since a ≡ b → SameFiles a b
same_of lacks since a b e = record { names = ap (λ (m : Machine). m.names) e; images = λ name. ap (λ (m : Machine). (m.base name).image) e; pending = λ name. ap (λ (m : Machine). (m.base name).pending) e }

same_both : (a b c : Machine) → SameFiles a c → SameFiles b c → SameFiles a b
same_both a b c x y = record { names = x.names ∙ sym y.names; images = λ name. x.images name ∙ sym (y.images name); pending = λ name. x.pending name ∙ sym (y.pending name) }

-- ---- a node's log past its cut

pub record LogIs (s : raft.Node) (v : NodeValue) : Type 0 where
  pub size : length s.log ≡ v.base + length v.entries
  pub rest : drop v.base s.log ≡ v.entries

pub log_is : (s : raft.Node) (v : NodeValue) → Twin s (node_of v) → LogIs s v
log_is s v t =
    let gone = compacted v.snapshot v.base in
    let log : gone ++ v.entries ≡ t.log = ap (λ (z : raft.Node). z.log) t.node in
    let base : v.base ≡ s.base = ap (λ (z : raft.Node). z.base) t.node in
    let n : length gone ≡ v.base = length-replicate v.base (record { term = v.snapshot.term; kind = Barrier; bytes = [] }) in
    record {
      size = t.same.len ∙ sym (ap length log) ∙ length-append gone v.entries ∙ ap (λ k. k + length v.entries) n;
      rest = ap (λ k. drop k s.log) base ∙ t.same.rest ∙ ap (drop s.base) (sym log) ∙ ap (λ k. drop k (gone ++ v.entries)) (sym base ∙ sym n) ∙ drop-append_seam gone v.entries;
    }

swap : (b i : ℕ) (xs : List Entry) → take (i - b) (drop b xs) ≡ drop b (take i xs)
swap b i xs = ⊎_elim
    (λ (le : b < i).
    let e : b + (i - b) ≡ i = omega arith in
    sym (drop-take b (i - b) xs) ∙ ap (λ k. drop b (take k xs)) e)
    (λ (lt : i ≤ b).
    let z : i - b ≡ 0 = omega arith in
    let size = length-take i xs in
    ap (λ k. take k (drop b xs)) z ∙ sym (drop_all b (take i xs) (omega arith)))
    (cases_lt b i)

has_front : (s : raft.Node) (v : Node) (ch : List Entry) (i : ℕ) → Twin s (node_of v.raft) → i ≤ length s.log → take i s.log ≡ take i ch → HasFront (log_seen ch) v i
has_front s v ch i t le same =
    let l = log_is s v.raft t in
    let b = v.raft.base in
    let size = l.size in
    let raw : take (i - b) v.raft.entries ≡ drop b (take i ch) = ap (take (i - b)) (sym l.rest) ∙ swap b i s.log ∙ ap (drop b) same in
    record {
      within = omega arith;
      entries = take-map entry_seen (i - b) v.raft.entries ∙ ap log_seen raw ∙ sym (ap (drop b) (take-map entry_seen i ch) ∙ drop-map entry_seen b (take i ch));
    }

-- a snapshot in a message is of a front
what_keeps : (vs : Setup) (ch : List Entry) (bytes : List ℕ) (w v : raft.What) (last : LogEnd) (front : List Entry) → AlikeWhat w v → v ≡ raft.Install last front → FrontIs vs bytes w → WhatFront ch w → 0 < last.index → KeepsOf vs (log_seen ch) last.index bytes
what_keeps vs ch bytes (raft.AskVote end transfer) v last front a e f g pos = absurd cc
what_keeps vs ch bytes (raft.Vote granted) v last front a e f g pos = absurd cc
what_keeps vs ch bytes (raft.Append prev commit es) v last front a e f g pos = absurd cc
what_keeps vs ch bytes (raft.Ack good index) v last front a e f g pos = absurd cc
what_keeps vs ch bytes (raft.Install end whole) v last front a e f g pos =
    let same : end ≡ last = ends end last a.0 front (sym a.1 ∙ e) in
    let size = length-map ch entry_seen in
    let low : end.index ≤ length ch = g.0 in
    subst (λ (l : LogEnd). KeepsOf vs (log_seen ch) l.index bytes) same (record { within = omega arith; front = whole; is = ap log_seen g.1 ∙ sym (take-map entry_seen end.index ch); bytes_are = f (subst (λ (l : LogEnd). 0 < l.index) (sym same) pos) })
  where
    ends : (p q : LogEnd) (xs ys : List Entry) → raft.Install p xs ≡ raft.Install q ys → p ≡ q
    ends p q xs ys z = cc
what_keeps vs ch bytes raft.TimeoutNow v last front a e f g pos = absurd cc

letter_keeps : (vs : Setup) (ch : List Entry) (o : Option raft.Message) (p : Option Letter) (l : Letter) (last : LogEnd) (front : List Entry) → Found vs o p → p ≡ Some l → l.message.what ≡ raft.Install last front → ((m : raft.Message) → o ≡ Some m → WhatFront ch m.what) → 0 < last.index → KeepsOf vs (log_seen ch) last.index l.bytes
letter_keeps vs ch None p l last front f e w g pos = absurd cc
letter_keeps vs ch (Some m) p l last front f e w g pos =
    let same : f.0 ≡ l = one f.0 l (sym f.1 ∙ e) in
    let is : LetterIs vs m l = subst (LetterIs vs m) same f.2 in
    what_keeps vs ch l.bytes m.what l.message.what last front is.alike.what w is.front (g m refl) pos
  where
    one : (a b : Letter) → Some a ≡ Some b → a ≡ b
    one a b z = cc

module _ (mean : Meaning) (kind : EngineKind) where
  pub up_at : (vs : Setup) (r : Run) (acts : List Act) (n : ℕ) (v : Node) → r.places n ≡ Up v → RunIs mean kind vs r acts → Stands vs v (node_at vs (cluster vs acts).raft n) ((cluster vs acts).lives n)
  up_at vs r acts n v e h =
      let x : PlaceIs vs (Up v) (r.jobs n) (node_at vs (cluster vs acts).raft n) ((cluster vs acts).lives n) = subst (λ p. PlaceIs vs p (r.jobs n) (node_at vs (cluster vs acts).raft n) ((cluster vs acts).lives n)) e (h.places n) in
      x.0

  pub applied_is : (vs : Setup) (v : Node) (s : raft.Node) (w : Life) → Stands vs v s w → s.commit ≡ applied v
  applied_is vs v s w st = sym (ap (λ (z : raft.Node). z.commit) st.twin.node)

  files_at : (vs : Setup) (r : Run) (acts : List Act) (n : ℕ) (v : Node) → RunIs mean kind vs r acts → r.places n ≡ Up v → (applied v ≤ length (chosen_seen vs (cluster vs acts))) × SameFiles (machine_of v.machine) (files (take (applied v) (chosen_seen vs (cluster vs acts))))
  files_at vs r acts n v h e =
      let c = cluster vs acts in
      let w = c.lives n in
      let st = up_at vs r acts n v e h in
      let safe = clusters_are_safe_hold mean kind vs acts h.fit in
      let a : w.applied ≡ applied v = st.coherent.applied ∙ applied_is vs v (node_at vs c.raft n) w st in
      (subst (λ k. k ≤ length (chosen_seen vs c)) a (safe.one_list n).0, same_of st.lacks st.since (machine_of v.machine) _ (sym st.files ∙ safe.images n ∙ ap (λ k. files (take k (chosen_seen vs c))) a))

  -- what a node knows of the servers at an index that it has applied is said of the chosen entries
  servers_at : (vs : Setup) (r : Run) (acts : List Act) (n index : ℕ) (v : Node) (servers : List raft.Server) → RunIs mean kind vs r acts → r.places n ≡ Up v → Knows v index servers →
      (index ≤ length (chosen vs (cluster vs acts).raft)) × (servers ≡ configuration vs (take index (chosen vs (cluster vs acts).raft)))
  servers_at vs r acts n index v servers h e (low, at, these) =
      let c = cluster vs acts in
      let s = node_at vs c.raft n in
      let x : PlaceIs vs (Up v) (r.jobs n) s (c.lives n) = subst (λ p. PlaceIs vs p (r.jobs n) s (c.lives n)) e (h.places n) in
      let commit : s.commit ≡ applied v = applied_is vs v s (c.lives n) x.0 in
      let same = applied_chosen_holds vs c.raft n in
      let long : s.commit ≤ length (chosen vs c.raft) = same.1 in
      let below : index ≤ s.commit = omega (arith, low, commit) in
      let front : take index s.log ≡ take index (chosen vs c.raft) = sym (take-take index s.commit s.log below) ∙ ap (take index) same.2 ∙ take-take index s.commit (chosen vs c.raft) below in (
        omega (arith, below, long),
        sym these ∙ x.1.members.servers ∙ ap (λ k. configuration vs (take k s.log)) at ∙ ap (configuration vs) front,
      )

  all_stand_in : (vs : Setup) (r : Run) (acts : List Act) (xs : List Said) → RunIs mean kind vs r acts → AllStand vs (cluster vs acts) xs → AllStandIn (chosen_seen vs (cluster vs acts)) r xs
  all_stand_in vs r acts [] h a = tt
  all_stand_in vs r acts (x ∷ xs) h a = (
    (λ pos n v e lead le.
        let c = cluster vs acts in
        let s = node_at vs c.raft n in
        let st = up_at vs r acts n v e h in
        let role : s.role ≡ raft.Leader = sym (ap (λ (z : raft.Node). z.role) st.twin.node) ∙ lead in
        let term : v.raft.term ≡ s.term = ap (λ (z : raft.Node). z.term) st.twin.node in
        let f = a.0 pos n s.term (role, refl) (subst (λ t. x.term ≤ t) term le) in
        has_front s v (chosen vs c.raft) x.index st.twin f.0 f.1),
    all_stand_in vs r acts xs h a.1,
  )

  pub run_is_safe : (vs : Setup) (r : Run) (acts : List Act) → RunIs mean kind vs r acts → SafeRun mean vs r (chosen_seen vs (cluster vs acts)) (cluster vs acts).said
  run_is_safe vs r acts h =
      let c = cluster vs acts in
      let safe = clusters_are_safe_hold mean kind vs acts h.fit in
      record {
        files_are = λ n v e. files_at vs r acts n v h e;
        alike = λ n k v u e f same.
            let y : SameFiles (machine_of u.machine) (files (take (applied v) (chosen_seen vs c))) = subst (λ i. SameFiles (machine_of u.machine) (files (take i (chosen_seen vs c)))) (sym same) (files_at vs r acts k u h f).1 in
            same_both (machine_of v.machine) (machine_of u.machine) _ (files_at vs r acts n v h e).1 y;
        kept = λ n pos.
            let k = kept_of mean kind vs (r.places n) (r.jobs n) (node_at vs c.raft n) (c.lives n) (h.places n) in
            let low = ((snapshot_fronts_hold vs c.raft).0 n).1 in
            let index = k.index in
            let i = (kept_at (r.places n)).snap.index in
            let size = length-map (chosen vs c.raft) entry_seen in
            record { within = omega arith; front = take i (chosen vs c.raft); is = sym (take-map entry_seen i (chosen vs c.raft)); bytes_are = keeps_front mean kind vs c.raft n (kept_at (r.places n)) k pos };
        servers = λ n index v servers e knows.
            let k = servers_at vs r acts n index v servers h e knows in
            let size = length-map (chosen vs c.raft) entry_seen in
            let within = k.0 in
            record { within = omega (arith, within, size); front = take index (chosen vs c.raft); is = sym (take-map entry_seen index (chosen vs c.raft)); servers_are = k.1 };
        alike_servers = λ n k index v u xs ys e f knows known. (servers_at vs r acts n index v xs h e knows).1 ∙ sym (servers_at vs r acts k index u ys h f known).1;
        letters = λ k l last front e w pos. letter_keeps vs (chosen vs c.raft) (slice_get (raft_run vs c.raft).messages k) (slice_get r.letters k) l last front (found vs (raft_run vs c.raft).messages r.letters k h.letters) e w (λ m q. (snapshot_fronts_hold vs c.raft).1 k m q) pos;
        replies = h.said;
        right = safe.said;
        stands = all_stand_in vs r acts c.said h safe.stands;
        woven = safe.woven;
      }

  pub runs_are_safe_hold : RunsAreSafe mean kind
  runs_are_safe_hold vs events h =
      let x = runs_make_acts_hold mean kind vs events h in
      (chosen_seen vs (cluster vs x.0), (cluster vs x.0).said, run_is_safe vs (run events) x.0 x.1)
