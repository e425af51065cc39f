-- The clauses of a node's calls are enough: its events are acts that fit.
use Rattle.std.proofs.Common.{◌≡◌, ◌⊎◌, inl, inr, ⊎_elim, ℕ, zero, suc, Bool, true, false, true≢false, List, [], ◌∷◌, ◌++◌, take, refl, sym, ap, ◌∙◌, subst}
use Rattle.std.specs.Prelude.{◌==◌, cond, Option, Some, None, slice_get}
use Rattle.std.proofs.lemmas.Bool.{cond-true, cond-false, eq-eqb}
use Rattle.sql_engine.specs.declared.kind.EngineKind.{EngineKind}
use Rattle.sql_engine.specs.Meanings.{Meaning}
use Rattle.session_safety.specs.Life.{run_from as lives_on}
use Rattle.raft_spec.specs.Log.{Entry, LogEnd}
use Rattle.raft_spec.specs.Node as raft
use Rattle.raft_spec.specs.NodeValues.{node_of}
use Rattle.raft_spec.specs.Account.{steps, stored_of, loaded, older, applied_to, enacted, account, said}
use Rattle.raft_safety.specs.Laws.{SameUpTo, node_at}
use Rattle.raft_safety.specs.Chosen.{chosen}
use Rattle.raft_safety.specs.Sources.{WhatFront}
use Rattle.raft_safety.specs.Members.{Setup, member_step}
use Rattle.raft_safety.specs.World.{World, Cause, Does, Takes, taken, inputs, Event, Acts, Stops, Start, after, outs, picked, stopped, put, run}
use Rattle.raft_safety.specs.Cuts.{Same, Twin, AlikeAll, AlikeInputs, Told}
use Rattle.raft_safety.proofs.Chosens.{put_here}
use Rattle.raft_safety.proofs.Leds.{run_snoc}
use Rattle.raft_safety.proofs.Midways.{applied_kept_hold}
use Rattle.raft_safety.proofs.SnapFronts.{snapshot_fronts_hold}
use Rattle.raft_safety.proofs.Cuts.{cut_steps_hold, forgets_nothing_holds}
use Rattle.cluster_model.specs.Clusters.{Cluster, Act, Moves, Breaks, Starts, booted, taken_in, acted, first_cluster, cluster_from, cluster, ActFits, ActsFit}
use Rattle.cluster_model.proofs.Clusters.{cluster_join, cluster_ok}
use Rattle.raft_spec.specs.Compaction.{compacted_step}
use Rattle.node_spec.specs.Nodes.{Node, IsCutOff, KeptIs, Stands}
use Rattle.node_spec.proofs.Served.{life_served}
use Rattle.node_spec.specs.Steps.{Taken, BytesAre, HasFront, HasFrontOf, TakesIn, Counts, StepsFit, StopsFit, StartsFit}

-- the cluster with one act more
pub with_act : (vs : Setup) (acts : List Act) (a : Act) → cluster vs (acts ++ a ∷ []) ≡ acted vs (cluster vs acts) a
unfolding cluster
with_act vs acts a = cluster_join vs acts (a ∷ []) first_cluster

one_or_none : (n : ℕ) (o : Option raft.Message) → (taken n o ≡ []) ⊎ ((m : raft.Message) × (taken n o ≡ raft.Receive m ∷ []))
one_or_none n None = inl refl
one_or_none n (Some m) = by (m.to == n)
  where
    by : (b : Bool) → (cond b (raft.Receive m ∷ []) [] ≡ []) ⊎ ((k : raft.Message) × (cond b (raft.Receive m ∷ []) [] ≡ raft.Receive k ∷ []))
    by true = inr (m, refl)
    by false = inl refl

-- the first inputs are those of some causes
front_inputs : (n : ℕ) (ms : List raft.Message) (cs : List Cause) (k : ℕ) → (ds : List Cause) × (inputs n ms ds ≡ take k (inputs n ms cs))
front_inputs n ms [] zero = ([], refl)
front_inputs n ms [] (suc k) = ([], refl)
front_inputs n ms (Does local ∷ cs) zero = ([], refl)
front_inputs n ms (Takes j ∷ cs) zero = ([], refl)
front_inputs n ms (Does local ∷ cs) (suc k) =
    let r = front_inputs n ms cs k in
    (Does local ∷ r.0, ap (λ (l : List raft.Input). raft.Local local ∷ l) r.1)
front_inputs n ms (Takes j ∷ cs) (suc k) = ⊎_elim
    (λ (e : taken n (slice_get ms j) ≡ []).
    let r = front_inputs n ms cs (suc k) in
    (Takes j ∷ r.0, ap (λ (l : List raft.Input). l ++ inputs n ms r.0) e ∙ r.1 ∙ sym (ap (λ (l : List raft.Input). take (suc k) (l ++ inputs n ms cs)) e)))
    (λ (e : (m : raft.Message) × (taken n (slice_get ms j) ≡ raft.Receive m ∷ [])).
    let r = front_inputs n ms cs k in
    (Takes j ∷ r.0, ap (λ (l : List raft.Input). l ++ inputs n ms r.0) e.1 ∙ ap (λ (l : List raft.Input). raft.Receive e.0 ∷ l) r.1 ∙ sym (ap (λ (l : List raft.Input). take (suc k) (l ++ inputs n ms cs)) e.1)))
    (one_or_none n (slice_get ms j))

alike_front : (k : ℕ) (is js : List raft.Input) → AlikeInputs is js → AlikeInputs (take k is) (take k js)
alike_front zero is js a = refl
alike_front (suc k) [] js a = ap (take (suc k)) a
alike_front (suc k) (raft.Local local ∷ is) js a = (a.0, take k a.1, ap (take (suc k)) a.2, a.3, alike_front k is a.1 a.4)
alike_front (suc k) (raft.Receive m ∷ is) js a = (a.0, take k a.1, ap (take (suc k)) a.2, a.3, alike_front k is a.1 a.4)

pub moved_node : (vs : Setup) (es : List Event) (n : ℕ) (cs : List Cause) (places : List ℕ) → (node_at vs es n).up ≡ true → node_at vs (es ++ Acts n cs places ∷ []) n ≡ after vs (run vs es) n cs
moved_node vs es n cs places up =
    let w = run vs es in
    ap (λ (v : World). v.nodes n) (run_snoc vs es (Acts n cs places) ∙ cond-true (w.nodes n).up (put w n (after vs w n cs) (picked (outs vs w n cs) places)) w up) ∙ put_here w n (after vs w n cs) (picked (outs vs w n cs) places)

-- ---- snapshots that come

-- a message that a node takes in was made
taken_made : (b : Bool) (made m : raft.Message) (ms : List raft.Message) (j : ℕ) (left : List raft.Input) → slice_get ms j ≡ Some made → ((k : ℕ) → slice_get left k ≡ Some (raft.Receive m) → (i : ℕ) × (slice_get ms i ≡ Some m))
    → (k : ℕ) → slice_get (cond b (raft.Receive made ∷ []) [] ++ left) k ≡ Some (raft.Receive m) → (i : ℕ) × (slice_get ms i ≡ Some m)
taken_made true made m ms j left q rest zero e = let same : made ≡ m = cc in (j, q ∙ ap Some same)
taken_made true made m ms j left q rest (suc k) e = rest k e
taken_made false made m ms j left q rest k e = rest k e

or_none : (n : ℕ) (o : Option raft.Message) (m : raft.Message) (ms : List raft.Message) (j : ℕ) (left : List raft.Input) → slice_get ms j ≡ o → ((k : ℕ) → slice_get left k ≡ Some (raft.Receive m) → (i : ℕ) × (slice_get ms i ≡ Some m))
    → (k : ℕ) → slice_get (taken n o ++ left) k ≡ Some (raft.Receive m) → (i : ℕ) × (slice_get ms i ≡ Some m)
or_none n None m ms j left q rest k e = rest k e
or_none n (Some made) m ms j left q rest k e = taken_made (made.to == n) made m ms j left q rest k e

was_made : (n : ℕ) (ms : List raft.Message) (cs : List Cause) (m : raft.Message) (k : ℕ) → slice_get (inputs n ms cs) k ≡ Some (raft.Receive m) → (i : ℕ) × (slice_get ms i ≡ Some m)
was_made n ms [] m k e = absurd cc
was_made n ms (Does local ∷ cs) m zero e = absurd cc
was_made n ms (Does local ∷ cs) m (suc k) e = was_made n ms cs m k e
was_made n ms (Takes j ∷ cs) m k e = or_none n (slice_get ms j) m ms j (inputs n ms cs) refl (λ i f. was_made n ms cs m i f) k e

still_there : (ms more : List raft.Message) (j : ℕ) (m : raft.Message) → slice_get ms j ≡ Some m → slice_get (ms ++ more) j ≡ Some m
still_there [] more j m e = absurd cc
still_there (x ∷ ms) more zero m e = e
still_there (x ∷ ms) more (suc j) m e = still_there ms more j m e

put_messages : (w : World) (n : ℕ) (s : raft.Node) (out : List raft.Message) → (put w n s out).messages ≡ w.messages ++ out
unfolding put
put_messages w n s out = refl

stands_for : (s : raft.Node) (c : List Entry) (w : raft.What) → SameUpTo s.snapshot.index s.log c → WhatFront c w → HasFront s w
stands_for s c (raft.Install last front) same f = λ e. subst (λ (l : LogEnd). take l.index s.log ≡ take l.index c) e same.2 ∙ sym f.1
stands_for s c (raft.AskVote last transfer) same f = tt
stands_for s c (raft.Vote granted) same f = tt
stands_for s c (raft.Append prev commit entries) same f = tt
stands_for s c (raft.Ack good index) same f = tt
stands_for s c raft.TimeoutNow same f = tt

-- a step in the midst of an event is the last one of its own event
has_front : (vs : Setup) (es : List Event) (n : ℕ) (cs : List Cause) (k : ℕ) → (node_at vs es n).up ≡ true →
    HasFrontOf (steps (member_step vs n) (node_at vs es n) (take (suc k) (inputs n (run vs es).messages cs))) (slice_get (inputs n (run vs es).messages cs) k)
has_front vs es n cs k up = by (slice_get (inputs n (run vs es).messages cs) k) refl
  where
    by : (o : Option raft.Input) → slice_get (inputs n (run vs es).messages cs) k ≡ o → HasFrontOf (steps (member_step vs n) (node_at vs es n) (take (suc k) (inputs n (run vs es).messages cs))) o
    by None e = tt
    by (Some (raft.Local local)) e = tt
    by (Some (raft.Receive m)) e =
        let w = run vs es in
        let f = front_inputs n w.messages cs (suc k) in
        let later = es ++ Acts n f.0 [] ∷ [] in
        let node : node_at vs later n ≡ steps (member_step vs n) (node_at vs es n) (take (suc k) (inputs n w.messages cs)) = moved_node vs es n f.0 [] up ∙ ap (steps (member_step vs n) (node_at vs es n)) f.1 in
        let made = was_made n w.messages cs m k e in
        let messages : (run vs later).messages ≡ w.messages ++ [] =
        ap (λ (v : World). v.messages) (run_snoc vs es (Acts n f.0 []) ∙ cond-true (w.nodes n).up (put w n (after vs w n f.0) (picked (outs vs w n f.0) [])) w up) ∙ put_messages w n (after vs w n f.0) (picked (outs vs w n f.0) []) in
        let there : slice_get (run vs later).messages made.0 ≡ Some m = ap (λ (ms : List raft.Message). slice_get ms made.0) messages ∙ still_there w.messages [] made.0 m made.1 in
        let law = snapshot_fronts_hold vs later in
        subst (λ (s : raft.Node). HasFront s m.what) node (stands_for (node_at vs later n) (chosen vs later) m.what (law.0 n) (law.1 made.0 m there))

-- what a node takes in, in a run
takes_in : (vs : Setup) (acts : List Act) (n : ℕ) (cs : List Cause) (old : Node) (x : Taken) → (node_at vs (cluster vs acts).raft n).up ≡ true → Twin (node_at vs (cluster vs acts).raft n) (node_of old.raft) → AlikeInputs (taken_in vs (cluster vs acts) n cs) x.inputs → BytesAre vs x.bytes (taken_in vs (cluster vs acts) n cs) →
    TakesIn vs n old (node_at vs (cluster vs acts).raft n) (taken_in vs (cluster vs acts) n cs) x
takes_in vs acts n cs old x up twin alike front =
    let c = cluster vs acts in
    let s = node_at vs c.raft n in
    let is = taken_in vs c n cs in
    record {
      alike = alike;
      front = front;
      kept = λ k. applied_kept_hold vs c.raft (Acts n cs []) k;
      fronts = λ k. has_front vs c.raft n cs k up;
      twins = λ k told.
          let f = front_inputs n (run vs c.raft).messages cs k in
          let r = cut_steps_hold vs c.raft n f.0 (node_of old.raft) (take k x.inputs) twin (subst (λ (l : List raft.Input). AlikeInputs l (take k x.inputs)) (sym f.1) (alike_front k is x.inputs alike)) (subst (Told vs n s) (sym f.1) told) in
          subst (λ (l : List raft.Input). Twin (steps (member_step vs n) s l) (steps (compacted_step n) (node_of old.raft) (take k x.inputs))) f.1 r.0;
    }

pub stopped_node : (vs : Setup) (es : List Event) (n : ℕ) (cs : List Cause) (upto applied base : ℕ) → node_at vs (es ++ Stops n cs upto applied base ∷ []) n ≡ loaded false [] (older base (stopped vs (run vs es) n cs upto))
stopped_node vs es n cs upto applied base =
    let w = run vs es in
    ap (λ (v : World). v.nodes n) (run_snoc vs es (Stops n cs upto applied base)) ∙ put_here w n (loaded false [] (older base (stopped vs w n cs upto))) []

pub started_node : (vs : Setup) (es : List Event) (n : ℕ) (servers : List raft.Server) → (node_at vs es n).up ≡ false → node_at vs (es ++ Start n servers ∷ []) n ≡ loaded true servers (stored_of (node_at vs es n))
started_node vs es n servers down =
    let w = run vs es in
    let x = loaded true servers (stored_of (w.nodes n)) in
    ap (λ (v : World). v.nodes n) (run_snoc vs es (Start n servers) ∙ cond-false (w.nodes n).up w (put w n x []) down) ∙ put_here w n x []

-- a node of a run has forgotten nothing that it knows
cut_off : (vs : Setup) (es : List Event) (n : ℕ) → IsCutOff (stored_of (node_at vs es n))
cut_off vs es n =
    let s = node_at vs es n in
    let t = forgets_nothing_holds vs es n in
    subst (Same s.base s.snapshot.index s.log) (sym (ap (λ (x : raft.Node). x.log) t.node)) t.same

module _ (m : Meaning) (kind : EngineKind) where
  fit_join : (vs : Setup) (xs ys : List Act) (c : Cluster) → ActsFit m kind vs c xs → ActsFit m kind vs (cluster_from vs c xs) ys → ActsFit m kind vs c (xs ++ ys)
  fit_join vs [] ys c a b = b
  fit_join vs (x ∷ xs) ys c a b = (a.0, fit_join vs xs ys (acted vs c x) a.1 b)

  pub fit_more : (vs : Setup) (acts : List Act) (a : Act) → ActsFit m kind vs first_cluster acts → ActFits m kind vs (cluster vs acts) a → ActsFit m kind vs first_cluster (acts ++ a ∷ [])
  unfolding cluster
  fit_more vs acts a h f = fit_join vs acts (a ∷ []) first_cluster h (f, tt)

  pub steps_fit_hold : StepsFit m kind
  unfolding acted
  steps_fit_hold vs acts n cs places old new x letters replies jobs answers h stands was alike front reads tells counts so =
      let c = cluster vs acts in
      let s = node_at vs c.raft n in
      let is = taken_in vs c n cs in
      let t = takes_in vs acts n cs old x stands.up stands.twin alike front in
      let told = tells s (c.lives n) is stands was t in
      let r = so s (c.lives n) is stands t told reads (life_served m (c.lives n) ((cluster_ok m kind vs acts h).lives n)) in
      let a = Moves n cs places r.0 in
      let same = with_act vs acts a in
      let lives = ap (λ (d : Cluster). d.lives n) same ∙ cond-true (n == n) (lives_on (c.lives n) r.0) (c.lives n) (eq-eqb n n refl) in
      let node : node_at vs (cluster vs (acts ++ a ∷ [])).raft n ≡ after vs (run vs c.raft) n cs = ap (λ (d : Cluster). node_at vs d.raft n) same ∙ moved_node vs c.raft n cs places stands.up in
      record {
        life = r.0;
        fit = fit_more vs acts a h (stands.up, r.1);
        stands = subst (λ w. Stands vs new (node_at vs (cluster vs (acts ++ a ∷ [])).raft n) w) (sym lives) (subst (λ x. Stands vs new x (lives_on (c.lives n) r.0)) (sym node) r.2);
        counts = subst (Counts vs new) (sym node) (counts s (c.lives n) is stands was t told);
        says = subst (AlikeAll (said (member_step vs n) s is)) (sym r.3) (cut_steps_hold vs c.raft n cs (node_of old.raft) x.inputs stands.twin alike told).1;
        told_so = r.4;
        lends = r.5;
        uses = r.6;
        joined = r.7;
        handled = r.8;
        completes = r.9;
      }

  pub stops_fit_hold : StopsFit m kind
  unfolding acted
  stops_fit_hold vs acts n cs old kept x h stands was alike front reads tells so =
      let c = cluster vs acts in
      let s = node_at vs c.raft n in
      let is = taken_in vs c n cs in
      let t = takes_in vs acts n cs old x stands.up stands.twin alike front in
      let told = tells s (c.lives n) is stands was t in
      let r = so s (c.lives n) is stands t told reads in
      let a = Breaks n cs r.0 r.1 r.2 r.3 in
      let is_x : stopped vs (run vs c.raft) n cs r.0 ≡ enacted (stored_of s) (take r.0 (account (member_step vs n) s is)) = cond-true s.up _ (stored_of s) stands.up in
      let node = ap (λ (d : Cluster). node_at vs d.raft n) (with_act vs acts a) ∙ stopped_node vs c.raft n cs r.0 r.1 r.2 in
      let k : KeptIs vs kept (older r.2 (applied_to r.1 (stopped vs (run vs c.raft) n cs r.0))) = subst (λ y. KeptIs vs kept (older r.2 (applied_to r.1 y))) (sym is_x) r.4 in
      record {
        upto = r.0;
        applied = r.1;
        base = r.2;
        life = r.3;
        fit = fit_more vs acts a h ((λ up. r.5), (λ down. absurd (true≢false (sym stands.up ∙ down))));
        keeps = subst (λ y. KeptIs vs kept (stored_of y)) (sym node) (record { term = k.term; vote = k.vote; log = k.log; index = k.index; snap_term = k.snap_term; bytes = k.bytes });
        joined = r.6;
        handled = r.7;
      }

  pub starts_fit_hold : StartsFit m kind
  unfolding acted
  starts_fit_hold vs acts n servers kept new h down k so =
      let c = cluster vs acts in
      let s = node_at vs c.raft n in
      let a = Starts n servers in
      let same = with_act vs acts a in
      let raft = ap (λ (d : Cluster). d.raft) same in
      let node : node_at vs (cluster vs (acts ++ a ∷ [])).raft n ≡ loaded true servers (stored_of s) = ap (λ es. node_at vs es n) raft ∙ started_node vs c.raft n servers down in
      let lives : (cluster vs (acts ++ a ∷ [])).lives n ≡ booted (loaded true servers (stored_of s)) =
      ap (λ (d : Cluster). d.lives n) same ∙ cond-true (n == n) _ (c.lives n) (eq-eqb n n refl) ∙ cond-false s.up (c.lives n) _ down ∙ ap booted (started_node vs c.raft n servers down) in
      let r = so.0 (stored_of s) k (cut_off vs c.raft n) in (
        fit_more vs acts a h tt,
        subst (λ w. Stands vs new (node_at vs (cluster vs (acts ++ a ∷ [])).raft n) w) (sym lives) (subst (λ x. Stands vs new x (booted (loaded true servers (stored_of s)))) (sym node) r.0),
        subst (Counts vs new) (sym node) r.1,
      )
