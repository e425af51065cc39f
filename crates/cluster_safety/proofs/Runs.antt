-- Each event of a run makes acts, by induction.
use Rattle.std.proofs.Common.{◌≡◌, ◌≢◌, ℕ, ◌<◌, ◌≤◌, Bool, true, false, List, [], ◌∷◌, ◌++◌, length, map, take, refl, sym, ap, ◌∙◌, subst, ⊎_elim, arith, append_assoc}
use Rattle.std.specs.Prelude.{cond, ◌==◌, Option, Some, None, Ok, Err, slice_get}
use Rattle.std.proofs.lemmas.Bool.{cond-true, cond-false, cond_both, eqb-true, eqb-false, eq-eqb, ne_eqb, cases_eq}
use Rattle.std.proofs.lemmas.List.{append-nil, map-append, take-take}
use Rattle.sql_engine.specs.declared.kind.EngineKind.{EngineKind}
use Rattle.sql_engine.specs.Meanings.{Meaning}
use Rattle.sql_engine.specs.Replies.{Statement}
use Rattle.session_spec.specs.Engines.{Answer}
use Rattle.session_spec.specs.Sessions.{Reply, Job, lent_query}
use Rattle.session_safety.specs.Nodes.{Said, Node as Life}
use Rattle.session_safety.specs.Life.{Event as Doing, run_from as lives_on}
use Rattle.session_safety.specs.Laws.{NoneComes}
use Rattle.session_safety.specs.Lending.{lent_in, handed_on, no_jobs, JobsAre}
use Rattle.session_safety.proofs.JobsKnown.{jobs_known}
use Rattle.raft_spec.specs.Log.{Entry}
use Rattle.raft_spec.specs.Node as raft
use Rattle.raft_spec.specs.Account.{stored_of, loaded, older}
use Rattle.raft_safety.specs.Chosen.{actor, chosen}
use Rattle.raft_safety.specs.Laws.{node_at}
use Rattle.raft_safety.specs.Members.{Setup}
use Rattle.raft_safety.specs.Sources.{WhatFront}
use Rattle.raft_safety.specs.World.{World, Cause, Event, Stops, Crash, Start, outs, picked, put, after, happens as raft_happens, run as raft_run}
use Rattle.raft_safety.proofs.Chosens.{happens_other, put_here, chosen_grows_holds}
use Rattle.raft_safety.proofs.Leds.{run_snoc}
use Rattle.raft_safety.proofs.SnapFronts.{snapshot_fronts_hold}
use Rattle.store_laws.specs.Store.{Kept}
use Rattle.cluster_model.specs.Clusters.{Cluster, Act, Moves, Breaks, Crashes as Halts, Starts as Boots, booted, event_of, said_of, doings, all_doings, acted, first_cluster, cluster, ActsFit}
use Rattle.cluster_model.specs.Laws.{NoneStarts}
use Rattle.cluster_model.proofs.Clusters.{cluster_ok, fit_parts, move_fit, raft_of, answers_in_time_hold}
use Rattle.node_spec.specs.Nodes.{Node, SnapshotOf, KeptIs}
use Rattle.node_spec.specs.Steps.{Letter, ReadIsAnswered, ReadsIn, JoinsOnly, Handles, Completes, calls, ArePartOf, StepHolds, CompletesStart, StopsInStart, told}
use Rattle.node_spec.proofs.Acts.{with_act, stopped_node, started_node, fit_more, steps_fit_hold, stops_fit_hold, starts_fit_hold}
use Rattle.cluster_safety.specs.Runs.{Place, Up, Down, Spoken, Run, Comes, Timeout, Beat, Yield, Connect, Asks, Hangup, Gets, Reads, Goes, Fails, Crashes, Starts, StartFails, Event as Happening, taken, joins_in, read_in, asks_in, TellsOf, ReadsJob, with_place, kept_at, spoken, happens, run_from, first_run, run, Holds}
use Rattle.cluster_safety.specs.Acts.{LettersAre, PlaceIs, spoken_to, RunIs, RunsMakeActs, NotStarted, NotJoined, asked, waits, GoesOn, RunsGoOn}
use Rattle.wire_msgs.specs.declared.request.Request.{Request}
use Rattle.cluster_safety.proofs.Parts.{part_same, part_join, calls_join}
use Rattle.cluster_safety.proofs.Letters.{letters_join, causes, came_in, KeepsFront, letters_sent, places_from, picked_all, later_ones}

-- ---- one act

pub with_event : (vs : Setup) (acts : List Act) (a : Act) → (cluster vs (acts ++ a ∷ [])).raft ≡ (cluster vs acts).raft ++ event_of a ∷ []
with_event vs acts a = ap (λ (d : Cluster). d.raft) (with_act vs acts a) ∙ raft_of vs (cluster vs acts) a

world_after : (vs : Setup) (acts : List Act) (a : Act) → raft_run vs (cluster vs (acts ++ a ∷ [])).raft ≡ raft_happens vs (raft_run vs (cluster vs acts).raft) (event_of a)
world_after vs acts a = ap (raft_run vs) (with_event vs acts a) ∙ run_snoc vs (cluster vs acts).raft (event_of a)

lives_other : (vs : Setup) (c : Cluster) (a : Act) (k : ℕ) → k ≢ actor (event_of a) → (acted vs c a).lives k ≡ c.lives k
unfolding acted
lives_other vs c (Moves n cs places ls) k e = cond-false (k == n) _ (c.lives k) (ne_eqb k n e)
lives_other vs c (Breaks n cs acts applied base ls) k e = cond-false (k == n) _ (c.lives k) (ne_eqb k n e)
lives_other vs c (Halts n) k e = cond-false (k == n) _ (c.lives k) (ne_eqb k n e)
lives_other vs c (Boots n servers) k e = cond-false (k == n) _ (c.lives k) (ne_eqb k n e)

-- nothing changes at other nodes
place_other : (vs : Setup) (acts : List Act) (a : Act) (k : ℕ) (p : Place) (j : ℕ → Option Job) → k ≢ actor (event_of a) → PlaceIs vs p j (node_at vs (cluster vs acts).raft k) ((cluster vs acts).lives k) → PlaceIs vs p j (node_at vs (cluster vs (acts ++ a ∷ [])).raft k) ((cluster vs (acts ++ a ∷ [])).lives k)
place_other vs acts a k p j e h =
    let c = cluster vs acts in
    let node : node_at vs (cluster vs (acts ++ a ∷ [])).raft k ≡ node_at vs c.raft k = ap (λ (w : World). w.nodes k) (world_after vs acts a) ∙ happens_other vs (raft_run vs c.raft) (event_of a) k e in
    let life : (cluster vs (acts ++ a ∷ [])).lives k ≡ c.lives k = ap (λ (d : Cluster). d.lives k) (with_act vs acts a) ∙ lives_other vs c a k e in
    subst (λ (w : Life). PlaceIs vs p j (node_at vs (cluster vs (acts ++ a ∷ [])).raft k) w) (sym life) (subst (λ (s : raft.Node). PlaceIs vs p j s (c.lives k)) (sym node) h)

-- the place of the node of the act, and of each other node
place_put : (vs : Setup) (r : Run) (acts : List Act) (a : Act) (n : ℕ) (p : Place) (js : ℕ → Option Job) (ls : List Letter) (xs : List Spoken) → actor (event_of a) ≡ n →
    ((k : ℕ) → PlaceIs vs (r.places k) (r.jobs k) (node_at vs (cluster vs acts).raft k) ((cluster vs acts).lives k)) →
    PlaceIs vs p js (node_at vs (cluster vs (acts ++ a ∷ [])).raft n) ((cluster vs (acts ++ a ∷ [])).lives n) →
    (k : ℕ) → PlaceIs vs ((with_place r n p js ls xs).places k) ((with_place r n p js ls xs).jobs k) (node_at vs (cluster vs (acts ++ a ∷ [])).raft k) ((cluster vs (acts ++ a ∷ [])).lives k)
place_put vs r acts a n p js ls xs at old new k =
    let d = cluster vs (acts ++ a ∷ []) in
    both_cond (k == n) p (r.places k) js (r.jobs k) (λ q j. PlaceIs vs q j (node_at vs d.raft k) (d.lives k))
    (λ e. subst (λ i. PlaceIs vs p js (node_at vs d.raft i) (d.lives i)) (sym (eqb-true _ _ e)) new)
    (λ e. place_other vs acts a k (r.places k) (r.jobs k) (λ z. eqb-false _ _ e (z ∙ at)) (old k))
  where
    both_cond : (b : Bool) (x y : Place) (i j : ℕ → Option Job) (P : Place → (ℕ → Option Job) → Type 0) → (b ≡ true → P x i) → (b ≡ false → P y j) → P (cond b x y) (cond b i j)
    both_cond true x y i j P f g = f refl
    both_cond false x y i j P f g = g refl

-- ---- acts that say nothing

put_messages : (w : World) (n : ℕ) (s : raft.Node) (out : List raft.Message) → (put w n s out).messages ≡ w.messages ++ out
unfolding put
put_messages w n s out = refl

module _ (mean : Meaning) (kind : EngineKind) where
  pub said_more : (vs : Setup) (acts : List Act) (a : Act) → ActsFit mean kind vs first_cluster (acts ++ a ∷ []) → (cluster vs (acts ++ a ∷ [])).said ≡ (cluster vs acts).said ++ said_of (cluster vs acts) a
  said_more vs acts a h = (answers_in_time_hold mean kind vs acts a h).0

  quiet : (vs : Setup) (r : Run) (acts : List Act) (a : Act) (n : ℕ) (p : Place) → actor (event_of a) ≡ n → RunIs mean kind vs r acts → ActsFit mean kind vs first_cluster (acts ++ a ∷ []) →
      (raft_happens vs (raft_run vs (cluster vs acts).raft) (event_of a)).messages ≡ (raft_run vs (cluster vs acts).raft).messages → said_of (cluster vs acts) a ≡ [] →
      PlaceIs vs p no_jobs (node_at vs (cluster vs (acts ++ a ∷ [])).raft n) ((cluster vs (acts ++ a ∷ [])).lives n) → RunIs mean kind vs (with_place r n p no_jobs [] []) (acts ++ a ∷ [])
  quiet vs r acts a n p at old fit same none new =
      let c = cluster vs acts in
      let d = cluster vs (acts ++ a ∷ []) in
      let ms : (raft_run vs d.raft).messages ≡ (raft_run vs c.raft).messages = ap (λ (w : World). w.messages) (world_after vs acts a) ∙ same in
      let said : d.said ≡ c.said = said_more vs acts a fit ∙ ap (λ (l : List Said). c.said ++ l) none ∙ append-nil c.said in
      record {
        fit = fit;
        places = place_put vs r acts a n p no_jobs [] [] at old.places new;
        letters = subst (λ (l : List raft.Message). LettersAre vs l (r.letters ++ [])) (sym ms) (subst (LettersAre vs (raft_run vs c.raft).messages) (sym (append-nil r.letters)) old.letters);
        said = ap (map spoken_to) (append-nil r.said) ∙ old.said ∙ ap (map told) (sym said);
      }

  same_run : (vs : Setup) (r q : Run) (acts : List Act) → r.letters ≡ q.letters → r.said ≡ q.said → ((k : ℕ) → r.places k ≡ q.places k) → ((k : ℕ) → r.jobs k ≡ q.jobs k) → RunIs mean kind vs r acts → RunIs mean kind vs q acts
  same_run vs r q acts l s p j h = record {
    fit = h.fit;
    places = λ k. subst (λ x. PlaceIs vs (q.places k) x (node_at vs (cluster vs acts).raft k) ((cluster vs acts).lives k)) (j k)
        (subst (λ x. PlaceIs vs x (r.jobs k) (node_at vs (cluster vs acts).raft k) ((cluster vs acts).lives k)) (p k) (h.places k));
    letters = subst (LettersAre vs (raft_run vs (cluster vs acts).raft).messages) l h.letters;
    said = ap (map spoken_to) (sym s) ∙ h.said;
  }

  stop_messages : (vs : Setup) (w : World) (n : ℕ) (cs : List Cause) (upto applied base : ℕ) → (raft_happens vs w (Stops n cs upto applied base)).messages ≡ w.messages
  stop_messages vs w n cs upto applied base = put_messages w n _ [] ∙ append-nil w.messages

  crash_messages : (vs : Setup) (w : World) (n : ℕ) → (raft_happens vs w (Crash n)).messages ≡ w.messages
  crash_messages vs w n = put_messages w n _ [] ∙ append-nil w.messages

  start_messages : (vs : Setup) (w : World) (n : ℕ) (servers : List raft.Server) → (raft_happens vs w (Start n servers)).messages ≡ w.messages
  start_messages vs w n servers = cond_both (w.nodes n).up w _ (λ (x : World). x.messages ≡ w.messages) (λ e. refl) (λ e. put_messages w n _ [] ∙ append-nil w.messages)

  -- ---- a crash

  crashed_node : (vs : Setup) (acts : List Act) (n : ℕ) → node_at vs (cluster vs (acts ++ Halts n ∷ [])).raft n ≡ loaded false [] (stored_of (node_at vs (cluster vs acts).raft n))
  crashed_node vs acts n = ap (λ (w : World). w.nodes n) (world_after vs acts (Halts n)) ∙ put_here (raft_run vs (cluster vs acts).raft) n _ []

  pub kept_of : (vs : Setup) (p : Place) (j : ℕ → Option Job) (s : raft.Node) (w : Life) → PlaceIs vs p j s w → KeptIs vs (kept_at p) (stored_of s)
  kept_of vs (Up node) j s w h = h.0.kept
  kept_of vs (Down kept) j s w h = h

  pub crash : (vs : Setup) (r : Run) (acts : List Act) (n : ℕ) → RunIs mean kind vs r acts → RunIs mean kind vs (with_place r n (Down (kept_at (r.places n))) no_jobs [] []) (acts ++ Halts n ∷ [])
  crash vs r acts n old =
      let c = cluster vs acts in
      let k = kept_of vs (r.places n) (r.jobs n) (node_at vs c.raft n) (c.lives n) (old.places n) in
      quiet vs r acts (Halts n) n (Down (kept_at (r.places n))) refl old (fit_more mean kind vs acts (Halts n) old.fit tt) (crash_messages vs (raft_run vs c.raft) n) refl
      (subst (λ (s : raft.Node). KeptIs vs (kept_at (r.places n)) (stored_of s)) (sym (crashed_node vs acts n)) (record { term = k.term; vote = k.vote; log = k.log; index = k.index; snap_term = k.snap_term; bytes = k.bytes }))

  twice : (r : Run) (n : ℕ) (p q : Place) → (k : ℕ) → (with_place (with_place r n q no_jobs [] []) n p no_jobs [] []).places k ≡ (with_place r n p no_jobs [] []).places k
  twice r n p q k = by (k == n)
    where
      by : (b : Bool) → cond b p (cond b q (r.places k)) ≡ cond b p (r.places k)
      by true = refl
      by false = refl

  twice_jobs : (r : Run) (n : ℕ) (p q : Place) → (k : ℕ) → (with_place (with_place r n q no_jobs [] []) n p no_jobs [] []).jobs k ≡ (with_place r n p no_jobs [] []).jobs k
  twice_jobs r n p q k = by (k == n)
    where
      by : (b : Bool) → cond b no_jobs (cond b no_jobs (r.jobs k)) ≡ cond b no_jobs (r.jobs k)
      by true = refl
      by false = refl

  -- ---- starts

  after_crash : (vs : Setup) (r : Run) (acts : List Act) (a : Act) (n : ℕ) (kept : Kept) (p : Place) → actor (event_of a) ≡ n → r.places n ≡ Down kept → RunIs mean kind vs r acts →
      (RunIs mean kind vs (with_place r n (Down (kept_at (r.places n))) no_jobs [] []) (acts ++ Halts n ∷ []) → RunIs mean kind vs (with_place (with_place r n (Down (kept_at (r.places n))) no_jobs [] []) n p no_jobs [] []) ((acts ++ Halts n ∷ []) ++ a ∷ [])) →
      RunIs mean kind vs (with_place r n p no_jobs [] []) (acts ++ Halts n ∷ a ∷ [])
  after_crash vs r acts a n kept p at down old next =
      let d = Down (kept_at (r.places n)) in
      subst (RunIs mean kind vs (with_place r n p no_jobs [] [])) (append_assoc acts (Halts n ∷ []) (a ∷ []))
      (same_run vs (with_place (with_place r n d no_jobs [] []) n p no_jobs [] []) (with_place r n p no_jobs [] []) ((acts ++ Halts n ∷ []) ++ a ∷ []) (ap (λ (l : List Letter). l ++ []) (append-nil r.letters)) (ap (λ (l : List Spoken). l ++ []) (append-nil r.said)) (twice r n p d) (twice_jobs r n p d) (next (crash vs r acts n old)))

  halted : (vs : Setup) (acts : List Act) (n : ℕ) → (node_at vs (cluster vs (acts ++ Halts n ∷ [])).raft n).up ≡ false
  halted vs acts n = ap (λ (s : raft.Node). s.up) (crashed_node vs acts n)

  -- what a node that crashed has kept
  kept_so : (vs : Setup) (r : Run) (acts : List Act) (n : ℕ) (kept : Kept) → r.places n ≡ Down kept → RunIs mean kind vs r acts → KeptIs vs kept (stored_of (node_at vs (cluster vs (acts ++ Halts n ∷ [])).raft n))
  kept_so vs r acts n kept down old =
      let c = cluster vs acts in
      let k : KeptIs vs kept (stored_of (node_at vs c.raft n)) = subst (λ p. PlaceIs vs p (r.jobs n) (node_at vs c.raft n) (c.lives n)) down (old.places n) in
      subst (λ (s : raft.Node). KeptIs vs kept (stored_of s)) (sym (crashed_node vs acts n)) (record { term = k.term; vote = k.vote; log = k.log; index = k.index; snap_term = k.snap_term; bytes = k.bytes })

  -- the life of a node that was started
  booted_life : (vs : Setup) (acts : List Act) (n : ℕ) (servers : List raft.Server) → (node_at vs (cluster vs acts).raft n).up ≡ false →
      (cluster vs (acts ++ Boots n servers ∷ [])).lives n ≡ booted (loaded true servers (stored_of (node_at vs (cluster vs acts).raft n)))
  unfolding acted
  booted_life vs acts n servers down =
      let c = cluster vs acts in
      let s = node_at vs c.raft n in
      ap (λ (d : Cluster). d.lives n) (with_act vs acts (Boots n servers)) ∙ cond-true (n == n) _ (c.lives n) (eq-eqb n n refl) ∙ cond-false s.up (c.lives n) _ down ∙ ap booted (started_node vs c.raft n servers down)

  pub start : (vs : Setup) (r : Run) (acts : List Act) (n : ℕ) (servers : List raft.Server) (new : Node) (kept : Kept) → r.places n ≡ Down kept → CompletesStart vs kept new servers → RunIs mean kind vs r acts → RunIs mean kind vs (with_place r n (Up new) no_jobs [] []) (acts ++ Halts n ∷ Boots n servers ∷ [])
  start vs r acts n servers new kept down so old =
      let first = acts ++ Halts n ∷ [] in
      after_crash vs r acts (Boots n servers) n kept (Up new) refl down old
      (λ mid.
      let x = starts_fit_hold mean kind vs first n servers kept new mid.fit (halted vs acts n) (kept_so vs r acts n kept down old) so in
      quiet vs (with_place r n (Down (kept_at (r.places n))) no_jobs [] []) first (Boots n servers) n (Up new) refl mid x.0 (start_messages vs (raft_run vs (cluster vs first).raft) n servers) refl
      (x.1, x.2, subst (JobsAre no_jobs) (sym (booted_life vs first n servers (halted vs acts n))) (λ conn s e. absurd (none_some e))))
    where
      none_some : {A : Type 0} {x : A} → None ≡ Some x → ⊥
      none_some e = cc

  pub start_fails : (vs : Setup) (r : Run) (acts : List Act) (n : ℕ) (kept left : Kept) → r.places n ≡ Down kept → StopsInStart vs kept left → RunIs mean kind vs r acts →
      (base : ℕ) × RunIs mean kind vs (with_place r n (Down left) no_jobs [] []) (acts ++ Halts n ∷ Breaks n [] 0 0 base [] ∷ [])
  start_fails vs r acts n kept left down so old =
      let first = acts ++ Halts n ∷ [] in
      let c = cluster vs first in
      let s = node_at vs c.raft n in
      let is_down = halted vs acts n in
      let x = so (stored_of s) (kept_so vs r acts n kept down old) in
      let a = Breaks n [] 0 0 x.0 [] in
      let node : node_at vs (cluster vs (first ++ a ∷ [])).raft n ≡ loaded false [] (older x.0 (stored_of s)) =
      ap (λ (es : List Event). node_at vs es n) (with_event vs first a) ∙ stopped_node vs c.raft n [] 0 0 x.0 ∙ ap (λ y. loaded false [] (older x.0 y)) (cond-false s.up _ (stored_of s) is_down) in
      let k = x.1 in (
        x.0,
        after_crash vs r acts a n kept (Down left) refl down old
            (λ mid.
            quiet vs (with_place r n (Down (kept_at (r.places n))) no_jobs [] []) first a n (Down left) refl mid (fit_more mean kind vs first a mid.fit ((λ up. absurd (no_way s.up up is_down)), (λ z. refl))) (stop_messages vs (raft_run vs c.raft) n [] 0 0 x.0) refl
            (subst (λ (y : raft.Node). KeptIs vs left (stored_of y)) (sym node) (record { term = k.term; vote = k.vote; log = k.log; index = k.index; snap_term = k.snap_term; bytes = k.bytes }))),
      )
    where
      no_way : (b : Bool) → b ≡ true → b ≡ false → ⊥
      no_way b t f = cc

  -- ---- an event that ends well, or doesn't

  pub keeps_front : (vs : Setup) (es : List Event) (n : ℕ) (kept : Kept) → KeptIs vs kept (stored_of (node_at vs es n)) → KeepsFront vs (chosen vs es) kept
  keeps_front vs es n kept k = λ pos.
      let s = node_at vs es n in
      let same = ((snapshot_fronts_hold vs es).0 n).2 in
      let low : 0 < s.snapshot.index = subst (λ (i : ℕ). 0 < i) k.index pos in
      subst (λ (x : List Entry). SnapshotOf vs x kept.snap.bytes) (same ∙ ap (λ (i : ℕ). take i (chosen vs es)) (sym k.index)) (k.bytes low)

  keeps_later : (vs : Setup) (es fs : List Event) (n : ℕ) (kept : Kept) → KeptIs vs kept (stored_of (node_at vs es n)) → KeepsFront vs (chosen vs (es ++ fs)) kept
  keeps_later vs es fs n kept k = λ pos.
      let s = node_at vs es n in
      let within = ((snapshot_fronts_hold vs es).0 n).1 in
      let index = k.index in
      let low : kept.snap.index ≤ length (chosen vs es) = omega arith in
      let grows = chosen_grows_holds vs es fs in
      subst (λ (x : List Entry). SnapshotOf vs x kept.snap.bytes) (ap (take kept.snap.index) (sym grows) ∙ take-take kept.snap.index (length (chosen vs es)) (chosen vs (es ++ fs)) low) (keeps_front vs es n kept k pos)

  said_back : (n : ℕ) (replies : List (ℕ × Reply)) → map spoken_to (map (spoken n) replies) ≡ replies
  said_back n [] = refl
  said_back n (p ∷ replies) = ap (λ l. p ∷ l) (said_back n replies)

  -- what is said of an event that ends well
  pub record Went (vs : Setup) (r : Run) (acts : List Act) (n : ℕ) (came : Comes) (added : List raft.LocalEvent) (old new : Node) (letters : List Letter) (replies : List (ℕ × Reply)) (jobs : List (ℕ × Job)) : Type 0 where
    pub life : List Doing
    pub places : List ℕ
    pub is : RunIs mean kind vs (with_place r n (Up new) (handed_on (r.jobs n) jobs) letters (map (spoken n) replies)) (acts ++ Moves n (causes came added) places life ∷ [])
    pub joined : JoinsOnly (joins_in came) life
    pub handled : Handles old new.waiting (taken r n came added) life
    pub completes : Completes old new (taken r n came added) ((cluster vs acts).lives n) life
    pub says : replies ≡ map told (said_of (cluster vs acts) (Moves n (causes came added) places life))

  -- what a reader answers is so for the life, whose query has the job that was handed out last
  reads_in : (r : Run) (n : ℕ) (came : Comes) (w : Life) → JobsAre (r.jobs n) w → ReadsJob mean kind r n came → ReadsIn mean kind w (read_in came)
  reads_in r n (Reads conn reply) w jobs h = by (lent_query (w.gate.session conn).later) refl
    where
      by : (o : Option Statement) → lent_query (w.gate.session conn).later ≡ o → ReadIsAnswered mean kind w conn reply o
      by None e = tt
      by (Some s) e = subst (λ (j : Option Job). TellsOf mean kind j reply) (jobs conn s e) h
  reads_in r n Timeout w jobs h = tt
  reads_in r n Beat w jobs h = tt
  reads_in r n Yield w jobs h = tt
  reads_in r n (Connect conn) w jobs h = tt
  reads_in r n (Asks conn requests) w jobs h = tt
  reads_in r n (Hangup conn) w jobs h = tt
  reads_in r n (Gets k) w jobs h = tt

  -- and after an event it has the one that this handed out, or that from before
  jobs_after : (vs : Setup) (acts : List Act) (n : ℕ) (cs : List Cause) (places : List ℕ) (life : List Doing) (before : ℕ → Option Job) (jobs : List (ℕ × Job)) → ActsFit mean kind vs first_cluster acts →
      ActsFit mean kind vs first_cluster (acts ++ Moves n cs places life ∷ []) → jobs ≡ lent_in ((cluster vs acts).lives n) life → JobsAre before ((cluster vs acts).lives n) →
      JobsAre (handed_on before jobs) ((cluster vs (acts ++ Moves n cs places life ∷ [])).lives n)
  unfolding acted cluster
  jobs_after vs acts n cs places life before jobs was fit lends known =
      let a = Moves n cs places life in
      let c = cluster vs acts in
      let w = c.lives n in
      let ok = cluster_ok mean kind vs acts was in
      let fits = move_fit mean kind vs c n cs places life ok (fit_parts mean kind vs acts (a ∷ []) first_cluster fit).1.0 in
      let after : (cluster vs (acts ++ a ∷ [])).lives n ≡ lives_on w life = ap (λ (d : Cluster). d.lives n) (with_act vs acts a) ∙ cond-true (n == n) (lives_on w life) w (eq-eqb n n refl) in
      subst (JobsAre (handed_on before jobs)) (sym after)
      (subst (λ (js : List (ℕ × Job)). JobsAre (handed_on before js) (lives_on w life)) (sym lends)
      (jobs_known mean kind before w life (ok.lives n) fits known))

  pub goes : (vs : Setup) (r : Run) (acts : List Act) (n : ℕ) (came : Comes) (added : List raft.LocalEvent) (old new : Node) (letters : List Letter) (replies : List (ℕ × Reply)) (jobs : List (ℕ × Job)) (answers : List Answer) → r.places n ≡ Up old → ReadsJob mean kind r n came →
      StepHolds {E = ℕ} mean kind vs n old new new.kept (taken r n came added) (Ok (record { letters = letters; replies = replies; jobs = jobs; answers = answers })) → RunIs mean kind vs r acts → Went vs r acts n came added old new letters replies jobs
  goes vs r acts n came added old new letters replies jobs answers at tells h was =
      let c = cluster vs acts in
      let w = raft_run vs c.raft in
      let cs = causes came added in
      let all = outs vs w n cs in
      let places = places_from 0 all in
      let here : PlaceIs vs (Up old) (r.jobs n) (node_at vs c.raft n) (c.lives n) = subst (λ p. PlaceIs vs p (r.jobs n) (node_at vs c.raft n) (c.lives n)) at (was.places n) in
      let in_so = came_in vs n w.messages r.letters came added was.letters in
      let m = steps_fit_hold mean kind vs acts n cs places old new (taken r n came added) letters replies jobs answers was.fit here.0 here.1 in_so.alike in_so.front (reads_in r n came (c.lives n) here.2 tells) h.tells h.counts h.whole in
      let a = Moves n cs places m.life in
      let d = cluster vs (acts ++ a ∷ []) in
      let messages : (raft_run vs d.raft).messages ≡ w.messages ++ all =
      ap (λ (x : World). x.messages) (world_after vs acts a ∙ cond-true (w.nodes n).up (put w n (after vs w n cs) (picked all places)) w here.0.up) ∙ put_messages w n (after vs w n cs) (picked all places) ∙ ap (λ (l : List raft.Message). w.messages ++ l) (picked_all all) in
      let fronts : (k : ℕ) (x : raft.Message) → slice_get all k ≡ Some x → WhatFront (chosen vs d.raft) x.what =
      later_ones (λ (x : raft.Message). WhatFront (chosen vs d.raft) x.what) w.messages all (λ k x e. (snapshot_fronts_hold vs d.raft).1 k x (ap (λ (l : List raft.Message). slice_get l k) messages ∙ e)) in
      let before : KeepsFront vs (chosen vs d.raft) old.kept = subst (λ (es : List Event). KeepsFront vs (chosen vs es) old.kept) (sym (with_event vs acts a)) (keeps_later vs c.raft (event_of a ∷ []) n old.kept here.0.kept) in
      let now : KeepsFront vs (chosen vs d.raft) new.kept = keeps_front vs d.raft n new.kept m.stands.kept in
      let fresh : LettersAre vs all letters = letters_sent vs (chosen vs d.raft) old.kept new.kept before now all letters m.says h.sent fronts in
      let said : map told d.said ≡ map told c.said ++ replies = ap (map told) (said_more vs acts a m.fit) ∙ map-append told c.said (said_of c a) ∙ ap (λ l. map told c.said ++ l) (sym m.told_so) in
      record {
        life = m.life;
        places = places;
        is = record {
          fit = m.fit;
          places = place_put vs r acts a n (Up new) (handed_on (r.jobs n) jobs) letters (map (spoken n) replies) refl was.places
              (m.stands, m.counts, jobs_after vs acts n cs places m.life (r.jobs n) jobs was.fit m.fit m.lends here.2);
          letters = subst (λ (l : List raft.Message). LettersAre vs l (r.letters ++ letters)) (sym messages) (letters_join vs w.messages all r.letters letters was.letters fresh);
          said = map-append spoken_to r.said (map (spoken n) replies) ∙ ap (λ l. l ++ map spoken_to (map (spoken n) replies)) was.said ∙ ap (λ l. map told c.said ++ l) (said_back n replies) ∙ sym said;
        };
        joined = m.joined;
        handled = m.handled;
        completes = m.completes;
        says = m.told_so;
      }

  pub record Failed (vs : Setup) (r : Run) (acts : List Act) (n : ℕ) (came : Comes) (added : List raft.LocalEvent) (old : Node) (kept : Kept) : Type 0 where
    pub upto : ℕ
    pub applied : ℕ
    pub base : ℕ
    pub life : List Doing
    pub is : RunIs mean kind vs (with_place r n (Down kept) no_jobs [] []) (acts ++ Breaks n (causes came added) upto applied base life ∷ [])
    pub joined : JoinsOnly (joins_in came) life
    pub handled : Handles old (λ conn. []) (taken r n came added) life

  pub fails : (vs : Setup) (r : Run) (acts : List Act) (n : ℕ) (came : Comes) (added : List raft.LocalEvent) (old : Node) (kept : Kept) (cause : ℕ) → r.places n ≡ Up old → ReadsJob mean kind r n came → StepHolds mean kind vs n old old kept (taken r n came added) (Err cause) → RunIs mean kind vs r acts → Failed vs r acts n came added old kept
  fails vs r acts n came added old kept cause at tells h was =
      let c = cluster vs acts in
      let w = raft_run vs c.raft in
      let cs = causes came added in
      let here : PlaceIs vs (Up old) (r.jobs n) (node_at vs c.raft n) (c.lives n) = subst (λ p. PlaceIs vs p (r.jobs n) (node_at vs c.raft n) (c.lives n)) at (was.places n) in
      let in_so = came_in vs n w.messages r.letters came added was.letters in
      let m = stops_fit_hold mean kind vs acts n cs old kept (taken r n came added) was.fit here.0 here.1 in_so.alike in_so.front (reads_in r n came (c.lives n) here.2 tells) h.tells h.failed in
      let a = Breaks n cs m.upto m.applied m.base m.life in
      record {
        upto = m.upto;
        applied = m.applied;
        base = m.base;
        life = m.life;
        is = quiet vs r acts a n (Down kept) refl was m.fit (stop_messages vs w n cs m.upto m.applied m.base) refl m.keeps;
        joined = m.joined;
        handled = m.handled;
      }

  -- ---- all events

  pub none_append : (conn : ℕ) (xs ys : List Doing) → NoneComes conn xs → NoneComes conn ys → NoneComes conn (xs ++ ys)
  none_append conn [] ys a b = b
  none_append conn (x ∷ xs) ys a b = (a.0, none_append conn xs ys a.1 b)

  pub doings_join : (n : ℕ) (xs ys : List Act) → all_doings n (xs ++ ys) ≡ all_doings n xs ++ all_doings n ys
  doings_join n [] ys = refl
  doings_join n (a ∷ xs) ys = ap (λ (l : List Doing). doings n a ++ l) (doings_join n xs ys) ∙ sym (append_assoc (doings n a) (all_doings n xs) (all_doings n ys))

  pub starts_join : (n : ℕ) (xs ys : List Act) → NoneStarts n xs → NoneStarts n ys → NoneStarts n (xs ++ ys)
  starts_join n [] ys a b = b
  starts_join n (Moves k cs places life ∷ xs) ys a b = starts_join n xs ys a b
  starts_join n (Breaks k cs upto applied base life ∷ xs) ys a b = starts_join n xs ys a b
  starts_join n (Halts k ∷ xs) ys a b = starts_join n xs ys a b
  starts_join n (Boots k servers ∷ xs) ys a b = (a.0, starts_join n xs ys a.1 b)

  pub one_comes : (n k conn : ℕ) (o : Option ℕ) (life : List Doing) → JoinsOnly o life → (n ≡ k → o ≢ Some conn) → NoneComes conn (cond (n == k) life [] ++ [])
  one_comes n k conn o life j h = none_append conn (cond (n == k) life []) [] (cond_both (n == k) life [] (NoneComes conn) (λ e. j conn (h (eqb-true _ _ e))) (λ e. tt)) tt

  -- what is handled by one node's acts, at the node and at another
  pub one_handles : (r q : Run) (n k conn : ℕ) (life : List Doing) (asks old left : List Request) → waits (r.places k) conn ≡ old → waits (q.places k) conn ≡ left → (n ≢ k → q.places n ≡ r.places n) → ArePartOf (calls conn life ++ left) (old ++ asks) →
      ArePartOf (calls conn (cond (n == k) life [] ++ []) ++ waits (q.places n) conn) (waits (r.places n) conn ++ (cond (n == k) asks [] ++ []))
  one_handles r q n k conn life asks old left e f same h = ⊎_elim
      (λ (z : n ≡ k).
      let t = eq-eqb n k z in
      let is_life : cond (n == k) life [] ++ [] ≡ life = append-nil (cond (n == k) life []) ∙ cond-true (n == k) life [] t in
      let is_asks : cond (n == k) asks [] ++ [] ≡ asks = append-nil (cond (n == k) asks []) ∙ cond-true (n == k) asks [] t in
      let is_left : waits (q.places n) conn ≡ left = ap (λ j. waits (q.places j) conn) z ∙ f in
      let is_old : waits (r.places n) conn ≡ old = ap (λ j. waits (r.places j) conn) z ∙ e in
      subst (λ l. ArePartOf l (waits (r.places n) conn ++ (cond (n == k) asks [] ++ []))) (sym (ap (λ (l : List Doing). calls conn l ++ waits (q.places n) conn) is_life ∙ ap (λ l. calls conn life ++ l) is_left))
      (subst (ArePartOf (calls conn life ++ left)) (sym (ap (λ l. waits (r.places n) conn ++ l) is_asks ∙ ap (λ l. l ++ asks) is_old)) h))
      (λ (z : n ≢ k).
      let t = ne_eqb n k z in
      let is_life : cond (n == k) life [] ++ [] ≡ [] = append-nil (cond (n == k) life []) ∙ cond-false (n == k) life [] t in
      let is_asks : cond (n == k) asks [] ++ [] ≡ [] = append-nil (cond (n == k) asks []) ∙ cond-false (n == k) asks [] t in
      let w = waits (r.places n) conn in
      subst (λ l. ArePartOf l (w ++ (cond (n == k) asks [] ++ []))) (sym (ap (λ (l : List Doing). calls conn l ++ waits (q.places n) conn) is_life ∙ ap (λ p. waits p conn) (same z)))
      (subst (ArePartOf w) (sym (ap (λ l. w ++ l) is_asks ∙ append-nil w)) (part_same w)))
      (cases_eq n k)

  -- if nothing is handled
  pub none_handles : (r : Run) (n k conn : ℕ) (p : Place) → waits p conn ≡ [] → ArePartOf (waits ((with_place r k p no_jobs [] []).places n) conn) (waits (r.places n) conn ++ [])
  none_handles r n k conn p e =
      let w = waits (r.places n) conn in
      subst (ArePartOf (waits ((with_place r k p no_jobs [] []).places n) conn)) (sym (append-nil w))
      (cond_both (n == k) p (r.places n) (λ q. ArePartOf (waits q conn) w) (λ t. subst (λ l. ArePartOf l w) (sym e) tt) (λ t. part_same w))

  pub other_place : (r : Run) (n k : ℕ) (p : Place) (js : ℕ → Option Job) (ls : List Letter) (xs : List Spoken) → n ≢ k → (with_place r k p js ls xs).places n ≡ r.places n
  other_place r n k p js ls xs z = cond-false (n == k) p (r.places n) (ne_eqb n k z)

  pub here_place : (r : Run) (k : ℕ) (p : Place) (js : ℕ → Option Job) (ls : List Letter) (xs : List Spoken) → (with_place r k p js ls xs).places k ≡ p
  here_place r k p js ls xs = cond-true (k == k) p (r.places k) (eq-eqb k k refl)

  abbrev pub no_doings : List Doing
  no_doings = []

  -- at a start nothing waits
  pub nothing_waits : (vs : Setup) (kept : Kept) (new : Node) (servers : List raft.Server) → CompletesStart vs kept new servers → (conn : ℕ) → new.waiting conn ≡ []
  nothing_waits vs kept new servers so conn = so.1 conn

  unfoldable pub step : (vs : Setup) (r : Run) (acts : List Act) (e : Happening) → RunIs mean kind vs r acts → Holds mean kind vs r e → GoesOn mean kind vs r acts (e ∷ [])
  step vs r acts (Goes n came added new letters replies jobs) was h =
      let x = goes vs r acts n came added h.0 new letters replies jobs h.1 h.2 h.3 h.4 was in
      record {
        later = Moves n (causes came added) x.places x.life ∷ [];
        is = x.is;
        starts = λ k s. tt;
        comes = λ k conn s. one_comes k n conn (joins_in came) x.life x.joined s.0;
        handles = λ k conn. one_handles r (happens r (Goes n came added new letters replies jobs)) k n conn x.life (asks_in came conn) (h.0.waiting conn) (new.waiting conn) (ap (λ p. waits p conn) h.2) (ap (λ p. waits p conn) (here_place r n (Up new) (handed_on (r.jobs n) jobs) letters (map (spoken n) replies))) (other_place r k n (Up new) (handed_on (r.jobs n) jobs) letters (map (spoken n) replies)) (x.handled conn);
      }
  step vs r acts (Fails n came added kept) was h =
      let x = fails vs r acts n came added h.0 kept h.1 h.2 h.3 h.4 was in
      record {
        later = Breaks n (causes came added) x.upto x.applied x.base x.life ∷ [];
        is = x.is;
        starts = λ k s. tt;
        comes = λ k conn s. one_comes k n conn (joins_in came) x.life x.joined s.0;
        handles = λ k conn. one_handles r (happens r (Fails n came added kept)) k n conn x.life (asks_in came conn) (h.0.waiting conn) [] (ap (λ p. waits p conn) h.2) (ap (λ p. waits p conn) (here_place r n (Down kept) no_jobs [] [])) (other_place r k n (Down kept) no_jobs [] []) (x.handled conn);
      }
  step vs r acts (Crashes n) was h = record { later = Halts n ∷ []; is = crash vs r acts n was; starts = λ k s. tt; comes = λ k conn s. tt; handles = λ k conn. none_handles r k n conn (Down (kept_at (r.places n))) refl }
  step vs r acts (Starts n servers new) was h = record { later = Halts n ∷ Boots n servers ∷ []; is = start vs r acts n servers new h.0 h.1 h.2 was; starts = λ k s. (s.0, tt); comes = λ k conn s. tt; handles = λ k conn. none_handles r k n conn (Up new) (nothing_waits vs h.0 new servers h.2 conn) }
  step vs r acts (StartFails n left) was h =
      let x = start_fails vs r acts n h.0 left h.1 h.2 was in
      record { later = Halts n ∷ Breaks n [] 0 0 x.0 [] ∷ []; is = x.1; starts = λ k s. tt; comes = λ k conn s. one_comes k n conn None [] (λ j q. tt) (λ q z. absurd (none_some conn z)); handles = λ k conn. subst (λ (l : List Request). ArePartOf (l ++ waits ((with_place r n (Down left) no_jobs [] []).places k) conn) (waits (r.places k) conn ++ [])) (sym (ap (calls conn) (append-nil (cond (k == n) [] []) ∙ no_life (k == n)))) (none_handles r k n conn (Down left) refl) }
    where
      none_some : (conn : ℕ) → None ≡ Some conn → ⊥
      none_some conn z = cc

      no_life : (b : Bool) → cond b (no_doings) no_doings ≡ no_doings
      no_life true = refl
      no_life false = refl

  pub started_parts : (n : ℕ) (e : Happening) (events : List Happening) → NotStarted n (e ∷ events) → NotStarted n (e ∷ []) × NotStarted n events
  started_parts n (Goes k came added new letters replies jobs) events h = (tt, h)
  started_parts n (Fails k came added kept) events h = (tt, h)
  started_parts n (Crashes k) events h = (tt, h)
  started_parts n (Starts k servers new) events h = ((h.0, tt), h.1)
  started_parts n (StartFails k kept) events h = (tt, h)

  pub joined_parts : (n conn : ℕ) (e : Happening) (events : List Happening) → NotJoined n conn (e ∷ events) → NotJoined n conn (e ∷ []) × NotJoined n conn events
  joined_parts n conn (Goes k came added new letters replies jobs) events h = ((h.0, tt), h.1)
  joined_parts n conn (Fails k came added kept) events h = ((h.0, tt), h.1)
  joined_parts n conn (Crashes k) events h = (tt, h)
  joined_parts n conn (Starts k servers new) events h = (tt, h)
  joined_parts n conn (StartFails k kept) events h = (tt, h)

  abbrev pub go_none : (vs : Setup) (r : Run) (acts : List Act) → RunIs mean kind vs r acts → GoesOn mean kind vs r acts []
  go_none vs r acts was = record {
    later = [];
    is = subst (RunIs mean kind vs r) (sym (append-nil acts)) was;
    starts = λ n s. tt;
    comes = λ n conn s. tt;
    handles = λ n conn. subst (ArePartOf (waits (r.places n) conn)) (sym (append-nil (waits (r.places n) conn))) (part_same (waits (r.places n) conn));
  }

  pub asked_join : (n conn : ℕ) (e : Happening) (events : List Happening) → asked n conn (e ∷ events) ≡ asked n conn (e ∷ []) ++ asked n conn events
  asked_join n conn (Goes k came added new letters replies jobs) events = sym (ap (λ l. l ++ asked n conn events) (append-nil (cond (n == k) (asks_in came conn) [])))
  asked_join n conn (Fails k came added kept) events = sym (ap (λ l. l ++ asked n conn events) (append-nil (cond (n == k) (asks_in came conn) [])))
  asked_join n conn (Crashes k) events = refl
  asked_join n conn (Starts k servers new) events = refl
  asked_join n conn (StartFails k kept) events = refl

  abbrev pub go_join : (vs : Setup) (r : Run) (acts : List Act) (e : Happening) (events : List Happening) (x : GoesOn mean kind vs r acts (e ∷ [])) → GoesOn mean kind vs (happens r e) (acts ++ x.later) events → GoesOn mean kind vs r acts (e ∷ events)
  go_join vs r acts e events x y = record {
    later = x.later ++ y.later;
    is = subst (RunIs mean kind vs (run_from (happens r e) events)) (append_assoc acts x.later y.later) y.is;
    starts = λ n s. let p = started_parts n e events s in starts_join n x.later y.later (x.starts n p.0) (y.starts n p.1);
    comes = λ n conn s. let p = joined_parts n conn e events s in subst (NoneComes conn) (sym (doings_join n x.later y.later)) (none_append conn (all_doings n x.later) (all_doings n y.later) (x.comes n conn p.0) (y.comes n conn p.1));
    handles = λ n conn.
        let end = waits ((run_from (happens r e) events).places n) conn in
        let w = waits (r.places n) conn in
        let all : calls conn (all_doings n (x.later ++ y.later)) ≡ calls conn (all_doings n x.later) ++ calls conn (all_doings n y.later) = ap (calls conn) (doings_join n x.later y.later) ∙ calls_join conn (all_doings n x.later) (all_doings n y.later) in
        subst (λ l. ArePartOf (l ++ end) (w ++ asked n conn (e ∷ events))) (sym all)
        (subst (λ l. ArePartOf ((calls conn (all_doings n x.later) ++ calls conn (all_doings n y.later)) ++ end) (w ++ l)) (sym (asked_join n conn e events))
        (part_join (calls conn (all_doings n x.later)) (waits ((happens r e).places n) conn) w (asked n conn (e ∷ [])) (calls conn (all_doings n y.later)) end (asked n conn events) (x.handles n conn) (y.handles n conn)));
  }

  pub runs_go_on_hold : RunsGoOn mean kind
  runs_go_on_hold vs r acts [] was h = go_none vs r acts was
  runs_go_on_hold vs r acts (e ∷ events) was h =
      let x = step vs r acts e was h.0 in
      go_join vs r acts e events x (runs_go_on_hold vs (happens r e) (acts ++ x.later) events x.is h.1)

  pub first_run_is : (vs : Setup) → RunIs mean kind vs first_run []
  unfolding raft_run cluster
  first_run_is vs = record {
    fit = tt;
    places = λ n. record { term = refl; vote = refl; log = refl; index = refl; snap_term = refl; bytes = λ h. absurd (omega (arith, h)) };
    letters = refl;
    said = refl;
  }

  pub runs_make_acts_hold : RunsMakeActs mean kind
  unfolding run
  runs_make_acts_hold vs events h =
      let x = runs_go_on_hold vs first_run [] events (first_run_is vs) h in
      (x.later, x.is)
