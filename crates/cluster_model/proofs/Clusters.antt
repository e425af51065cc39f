-- A cluster of whole nodes is safe.
use Rattle.std.proofs.Common.{◌≡◌, ◌≢◌, ℕ, zero, suc, ◌<◌, ◌≤◌, true, false, true≢false, cond, List, [], ◌∷◌, ◌++◌, length, take, drop, refl, sym, ap, ◌∙◌, subst, ⊎_elim, arith, length-append, append_assoc, take-append-drop}
use Rattle.std.specs.Prelude.{◌==◌}
use Rattle.std.proofs.Math.Seq.{drop-append_seam}
use Rattle.std.proofs.lemmas.List.{append-nil, length-take-le, take_at}
use Rattle.std.proofs.lemmas.Bool.{cond_both, cond-true, cond-false, ne_eqb, cases_lt, cases_eq, cases_Bool, eq-eqb}
use Rattle.sql_engine.specs.declared.kind.EngineKind.{EngineKind}
use Rattle.sql_engine.specs.Meanings.{Meaning}
use Rattle.session_spec.specs.Entries.{Entry as Line}
use Rattle.session_spec.specs.Machine.{files}
use Rattle.session_spec.specs.Seen.{log_seen}
use Rattle.session_safety.specs.Woven.{Woven}
use Rattle.session_safety.specs.Nodes.{Said, Node as Life, applied_entries}
use Rattle.session_safety.specs.Life.{Event as Doing, Connect, Hangup, Call, Resume, Done, Apply, Lose, Lead, Serve, Append, Follow, Fits, AllFit, happens as goes_on, run_from as lives_on}
use Rattle.session_safety.specs.Replies.{AllSaid}
use Rattle.session_safety.specs.Laws.{AllHere}
use Rattle.session_safety.proofs.Invariant.{NodeOk as LifeOk, said_grown, said_append}
use Rattle.session_safety.proofs.Weaves.{woven_front}
use Rattle.session_safety.proofs.Lives.{happens_ok, run_ok, started_ok}
use Rattle.session_safety.proofs.Lasts.{step_here, lasts_step}
use Rattle.raft_spec.specs.Node.{Node, Server, is_leader}
use Rattle.raft_spec.specs.Account.{Stored, stored_of, loaded, older, applied_to, enacted, account}
use Rattle.raft_safety.specs.Members.{Setup, configuration, member_step}
use Rattle.raft_safety.specs.World.{World, Cause, Event, Acts, Stops, Crash, Start, inputs, after, outs, picked, stopped, start, happens, put, run}
use Rattle.raft_safety.specs.Laws.{node_at, log_at}
use Rattle.raft_safety.specs.Chosen.{actor, chosen}
use Rattle.raft_safety.specs.Standing.{turn}
use Rattle.raft_safety.specs.Sources.{midway}
use Rattle.raft_safety.specs.Properties.{EventKeeps, EventsKeep}
use Rattle.raft_safety.proofs.Bases.{committed_within}
use Rattle.raft_safety.proofs.Worlds.{moments}
use Rattle.raft_safety.proofs.Chosens.{applied_chosen_holds, happens_other, put_here}
use Rattle.raft_safety.proofs.Standing.{events_chosen_holds}
use Rattle.raft_safety.proofs.Leds.{run_snoc}
use Rattle.cluster_model.specs.Weaving.{IsWoven}
use Rattle.cluster_model.specs.Clusters.{Cluster, Act, Moves, Breaks, Crashes, Starts, event_of, booted, raft_after, with_life, said_in, said_of, acted, first_cluster, cluster_from, cluster, FitsIn, AllFitIn, InTerm, Coherent, Ended, ActFits, ActsFit}
use Rattle.cluster_model.specs.Laws.{chosen_seen, ClustersAreSafe, AllInTime, AnswersInTime, RepliesStay, StopsAreSafe, AlikeFiles}
use Rattle.cluster_model.proofs.Lines.{size_of, seen_append, no_entries}
use Rattle.cluster_model.proofs.Weavings.{logs_weave_hold, midway_weave_holds, chosen_weaves_hold}
use Rattle.cluster_model.proofs.Ones.{weave_next}
use Rattle.cluster_model.proofs.Fronts.{AllIndexed, indexed_more, indexed_append, indexed_drop, more_chosen, FrontOf, front_more, done_chosen, ended_chosen, AllRooted, rooted_more, rooted_append, rooted_now, all_stand, AllBetween, between_wider, between_append, in_time}

indexed_here : (w v : Life) (xs : List Said) → AllHere w v xs → AllIndexed v.applied xs
indexed_here w v [] a = tt
indexed_here w v (x ∷ xs) a = (⊎_elim (λ (h : 0 < x.index). let e = (a.0 h).1 in omega arith) (λ (h : x.index ≤ 0). omega arith) (cases_lt 0 x.index), indexed_here w v xs a.1)

pub record ClusterOk (mean : Meaning) (vs : Setup) (c : Cluster) : Type 0 where
  pub weaves : EventsKeep IsWoven vs (start vs) c.raft
  pub lives : (n : ℕ) → LifeOk mean (c.lives n)
  pub indexed : (n : ℕ) → AllIndexed (c.lives n).applied (c.lives n).said
  pub coherent : (n : ℕ) → (node_at vs c.raft n).up ≡ true → Coherent (c.lives n) (node_at vs c.raft n)
  pub front : (n : ℕ) → FrontOf (c.lives n) (chosen_seen vs c)
  pub said : AllSaid mean (chosen_seen vs c) c.said
  pub rooted : AllRooted vs c.raft c.said

-- the log after each step of the act
abbrev world_logs : Setup → Cluster → Act → ℕ → List Line
world_logs vs c a k = log_seen (midway vs (run vs c.raft) (event_of a) k).log

-- what the act makes of its node's life
record LifeAfter (mean : Meaning) (vs : Setup) (c : Cluster) (a : Act) (n : ℕ) (new : Life) (more : List Said) : Type 0 where
  weaves : EventKeeps IsWoven vs (run vs c.raft) (event_of a)
  life : LifeOk mean new
  indexed : AllIndexed new.applied new.said
  coherent : (node_at vs (raft_after c a) n).up ≡ true → Coherent new (node_at vs (raft_after c a) n)
  front : FrontOf new (log_seen (chosen vs (raft_after c a)))
  said : AllSaid mean (log_seen (chosen vs (raft_after c a))) more
  rooted : AllRooted vs (raft_after c a) more

-- what the step shows, at the moments of the world
record MoveFits (mean : Meaning) (kind : EngineKind) (vs : Setup) (c : Cluster) (n : ℕ) (cs : List Cause) (places : List ℕ) (ls : List Doing) : Type 0 where
  runs : (node_at vs c.raft n).up ≡ true
  weaves : EventKeeps IsWoven vs (run vs c.raft) (Acts n cs places)
  life : AllFitIn mean kind (world_logs vs c (Moves n cs places ls)) (c.lives n) ls
  terms : InTerm (lives_on (c.lives n) ls) (drop (length (c.lives n).said) (lives_on (c.lives n) ls).said)
  coherent : Coherent (lives_on (c.lives n) ls) (node_at vs (raft_after c (Moves n cs places ls)) n)

record BreakFits (mean : Meaning) (kind : EngineKind) (vs : Setup) (c : Cluster) (n : ℕ) (cs : List Cause) (acts applied base : ℕ) (ls : List Doing) : Type 0 where
  weaves : EventKeeps IsWoven vs (run vs c.raft) (Stops n cs acts applied base)
  life : (node_at vs c.raft n).up ≡ true → AllFitIn mean kind (world_logs vs c (Breaks n cs acts applied base ls)) (c.lives n) ls
  ended : (node_at vs c.raft n).up ≡ true → Ended (lives_on (c.lives n) ls) (turn vs c.raft (Stops n cs acts applied base))
  down : (node_at vs c.raft n).up ≡ false → ls ≡ []

-- the node is down after these
down_after : (vs : Setup) (es : List Event) (e : Event) (n : ℕ) (x : Stored) → happens vs (run vs es) e ≡ put (run vs es) n (loaded false [] x) [] → (node_at vs (es ++ e ∷ []) n).up ≡ true → ⊥
down_after vs es e n x is up = true≢false (sym up ∙ ap (λ (w : World). (w.nodes n).up) (run_snoc vs es e ∙ is) ∙ ap (λ (s : Node). s.up) (put_here (run vs es) n (loaded false [] x) []))

pub cluster_join : (vs : Setup) (acts more : List Act) (c : Cluster) → cluster_from vs c (acts ++ more) ≡ cluster_from vs (cluster_from vs c acts) more
cluster_join vs [] more c = refl
cluster_join vs (a ∷ acts) more c = cluster_join vs acts more (acted vs c a)

pub raft_of : (vs : Setup) (c : Cluster) (a : Act) → (acted vs c a).raft ≡ c.raft ++ event_of a ∷ []
unfolding acted
raft_of vs c (Moves n cs places ls) = refl
raft_of vs c (Breaks n cs acts applied base ls) = refl
raft_of vs c (Crashes n) = refl
raft_of vs c (Starts n servers) = refl

said_after : (vs : Setup) (c : Cluster) (a : Act) → (acted vs c a).said ≡ c.said ++ said_of c a
unfolding acted
said_after vs c (Moves n cs places ls) = refl
said_after vs c (Breaks n cs acts applied base ls) = refl
said_after vs c (Crashes n) = refl
said_after vs c (Starts n servers) = refl

module _ (mean : Meaning) (kind : EngineKind) where
  pub applied_up : (w : Life) (e : Doing) → LifeOk mean w → LifeOk mean (goes_on w e) → w.applied ≤ (goes_on w e).applied
  applied_up w e a b =
      let l = lasts_step mean kind w e a in
      let size = ap length l.applied in
      let one = length-take-le w.applied w.log a.applied in
      let two = length-take-le (goes_on w e).applied (goes_on w e).log b.applied in
      omega (arith, length-append (applied_entries w) l.more)

  pub applied_run : (w : Life) (es : List Doing) → AllFit mean kind w es → LifeOk mean w → w.applied ≤ (lives_on w es).applied
  applied_run w [] h a = omega arith
  applied_run w (e ∷ es) h a =
      let b = happens_ok mean kind w e h.0 a in
      let one = applied_up w e a b in
      let rest = applied_run (goes_on w e) es h.1 b in
      omega arith

  between_here : (w v : Life) (xs : List Said) → AllHere w v xs → AllBetween w.applied v.applied xs
  between_here w v [] a = tt
  between_here w v (x ∷ xs) a = ((λ h. let y = a.0 h in let same = y.1 in (y.0, omega arith)), between_here w v xs a.1)

  -- what is said in a stretch of a life
  said_run : (w : Life) (es : List Doing) → AllFit mean kind w es → LifeOk mean w → (more : List Said) × ((lives_on w es).said ≡ w.said ++ more) × AllBetween w.applied (lives_on w es).applied more
  said_run w [] h a = ([], sym (append-nil w.said), tt)
  said_run w (e ∷ es) h a =
      let v = goes_on w e in
      let b = happens_ok mean kind w e h.0 a in
      let now = step_here mean kind w e a in
      let rest = said_run v es h.1 b in
      let one = applied_up w e a b in
      let two = applied_run v es h.1 b in (
        now.0 ++ rest.0,
        rest.1 ∙ ap (λ l. l ++ rest.0) now.1 ∙ append_assoc w.said now.0 rest.0,
        between_append w.applied (lives_on v es).applied now.0 rest.0
            (between_wider w.applied w.applied v.applied (lives_on v es).applied now.0 (omega arith) two (between_here w v now.0 now.2))
            (between_wider w.applied v.applied (lives_on v es).applied (lives_on v es).applied rest.0 one (omega arith) rest.2),
      )

  indexed_run : (w : Life) (es : List Doing) → AllFit mean kind w es → LifeOk mean w → AllIndexed w.applied w.said → AllIndexed (lives_on w es).applied (lives_on w es).said
  indexed_run w [] h a x = x
  indexed_run w (e ∷ es) h a x =
      let b = happens_ok mean kind w e h.0 a in
      let s = step_here mean kind w e a in
      indexed_run (goes_on w e) es h.1 b
      (subst (AllIndexed (goes_on w e).applied) (sym s.1) (indexed_append (goes_on w e).applied w.said s.0 (indexed_more w.applied (goes_on w e).applied w.said (applied_up w e a b) x) (indexed_here w (goes_on w e) s.0 s.2)))

  fits_of : (logs : ℕ → List Line) (w : Life) (e : Doing) → ((k : ℕ) → Woven (logs k)) → FitsIn mean kind logs w e → Fits mean kind w e
  fits_of logs w (Connect c) t h = h
  fits_of logs w (Hangup c) t h = h
  fits_of logs w (Call c standing r answers) t h = h
  fits_of logs w (Resume c standing answers) t h = h
  fits_of logs w (Done c answers) t h = h
  fits_of logs w Apply t h = h
  fits_of logs w (Lose u) t h = h
  fits_of logs w (Lead u) t h = h
  fits_of logs w Serve t h = h
  fits_of logs w (Append commands) t h = h
  fits_of logs w (Follow entries) t h = (h.0, woven_front (take w.applied w.log ++ entries) h.2 (subst Woven h.3 (t h.1)))

  all_fit : (logs : ℕ → List Line) (w : Life) (es : List Doing) → ((k : ℕ) → Woven (logs k)) → AllFitIn mean kind logs w es → AllFit mean kind w es
  all_fit logs w [] t h = tt
  all_fit logs w (e ∷ es) t h = (fits_of logs w e t h.0, all_fit logs (goes_on w e) es t h.1)

  said_drop : (log : List Line) (d : ℕ) (xs : List Said) → AllSaid mean log xs → AllSaid mean log (drop d xs)
  said_drop log zero xs a = a
  said_drop log (suc d) [] a = tt
  said_drop log (suc d) (x ∷ xs) a = said_drop log d xs a.1

  said_front : (k : ℕ) (log : List Line) (xs : List Said) → AllSaid mean (take k log) xs → AllSaid mean log xs
  said_front k log xs a = subst (λ l. AllSaid mean l xs) (take-append-drop k log) (said_grown mean (take k log) (drop k log) xs a)

  chosen_said : (vs : Setup) (es fs : List Event) (xs : List Said) → AllSaid mean (log_seen (chosen vs es)) xs → AllSaid mean (log_seen (chosen vs (es ++ fs))) xs
  chosen_said vs es fs xs a =
      subst (λ l. AllSaid mean l xs) (sym (ap log_seen (more_chosen vs es fs) ∙ seen_append (chosen vs es) (drop (length (chosen vs es)) (chosen vs (es ++ fs)))))
      (said_grown mean (log_seen (chosen vs es)) (log_seen (drop (length (chosen vs es)) (chosen vs (es ++ fs)))) xs a)

  boot_ok : (vs : Setup) (es : List Event) (n : ℕ) → EventsKeep IsWoven vs (start vs) es → LifeOk mean (booted (node_at vs es n))
  boot_ok vs es n h =
      let size = size_of (log_at vs es n) in
      let m = moments vs es [] in
      let low = committed_within (m.world.nodes n).commit in
      started_ok mean kind (log_seen (log_at vs es n)) (node_at vs es n).commit (node_at vs es n).term (omega arith) (logs_weave_hold vs es h n)

  act_with : (vs : Setup) (c : Cluster) (a : Act) (n : ℕ) (new : Life) (more : List Said) → actor (event_of a) ≡ n → ClusterOk mean vs c → LifeAfter mean vs c a n new more → ClusterOk mean vs (with_life c a n new more)
  act_with vs c a n new more at old h =
      let e = event_of a in
      record {
        weaves = weave_next vs c.raft (e ∷ []) old.weaves (h.weaves, tt);
        lives = λ k. cond_both (k == n) new (c.lives k) (LifeOk mean) (λ x. h.life) (λ x. old.lives k);
        indexed = λ k. cond_both (k == n) new (c.lives k) (λ l. AllIndexed l.applied l.said) (λ x. h.indexed) (λ x. old.indexed k);
        coherent = λ k up. ⊎_elim
            (λ (x : k ≡ n). subst (λ j. (node_at vs (raft_after c a) j).up ≡ true → Coherent (cond (j == n) new (c.lives j)) (node_at vs (raft_after c a) j)) (sym x)
            (λ u. subst (λ l. Coherent l (node_at vs (raft_after c a) n)) (sym (cond-true (n == n) new (c.lives n) (eq-eqb n n refl))) (h.coherent u)) up)
            (λ (x : k ≢ n).
            let same : node_at vs (raft_after c a) k ≡ node_at vs c.raft k = ap (λ (w : World). w.nodes k) (run_snoc vs c.raft e) ∙ happens_other vs (run vs c.raft) e k (λ z. x (z ∙ at)) in
            subst (λ l. Coherent l (node_at vs (raft_after c a) k)) (sym (cond-false (k == n) new (c.lives k) (ne_eqb k n x)))
            (subst (Coherent (c.lives k)) (sym same) (old.coherent k (ap (λ (s : Node). s.up) (sym same) ∙ up))))
            (cases_eq k n);
        front = λ k. cond_both (k == n) new (c.lives k) (λ l. FrontOf l (log_seen (chosen vs (raft_after c a)))) (λ x. h.front) (λ x. front_more vs c.raft (e ∷ []) (c.lives k) (old.front k));
        said = said_append mean (log_seen (chosen vs (raft_after c a))) c.said more (chosen_said vs c.raft (e ∷ []) c.said old.said) h.said;
        rooted = rooted_append vs (raft_after c a) c.said more (rooted_more vs c.raft (e ∷ []) c.said old.rooted) h.rooted;
      }

  -- a life that stays
  same_life : (vs : Setup) (c : Cluster) (a : Act) (n : ℕ) → ClusterOk mean vs c → EventKeeps IsWoven vs (run vs c.raft) (event_of a) → ((node_at vs (raft_after c a) n).up ≡ true → Coherent (c.lives n) (node_at vs (raft_after c a) n)) → LifeAfter mean vs c a n (c.lives n) []
  same_life vs c a n old w h = record { weaves = w; life = old.lives n; indexed = old.indexed n; coherent = h; front = front_more vs c.raft (event_of a ∷ []) (c.lives n) (old.front n); said = tt; rooted = tt }

  moved : (vs : Setup) (c : Cluster) (n : ℕ) (cs : List Cause) (places : List ℕ) (ls : List Doing) → ActFits mean kind vs c (Moves n cs places ls) → MoveFits mean kind vs c n cs places ls
  moved vs c n cs places ls h =
      let f = h.1 in
      let w = run vs c.raft in
      let node : node_at vs (raft_after c (Moves n cs places ls)) n ≡ after vs w n cs = ap (λ (v : World). v.nodes n) (run_snoc vs c.raft (Acts n cs places) ∙ cond-true (w.nodes n).up (put w n (after vs w n cs) (picked (outs vs w n cs) places)) w h.0) ∙ put_here w n (after vs w n cs) (picked (outs vs w n cs) places) in
      record {
        runs = h.0;
        weaves = λ u. f.weaves;
        life = f.fits;
        terms = f.terms;
        coherent = subst (Coherent (lives_on (c.lives n) ls)) (sym node) f.coherent;
      }

  broken : (vs : Setup) (c : Cluster) (n : ℕ) (cs : List Cause) (acts applied base : ℕ) (ls : List Doing) → ActFits mean kind vs c (Breaks n cs acts applied base ls) → BreakFits mean kind vs c n cs acts applied base ls
  broken vs c n cs acts applied base ls h =
      let s = node_at vs c.raft n in
      let is = inputs n (run vs c.raft).messages cs in
      record {
        weaves = λ u. (h.0 u).weaves;
        life = λ u. (h.0 u).fits;
        ended = λ u. subst (λ x. Ended (lives_on (c.lives n) ls) (applied_to applied x)) (sym (cond-true s.up (enacted (stored_of s) (take acts (account (member_step vs n) s is))) (stored_of s) u)) (h.0 u).ended;
        down = h.1;
      }

  -- the events of a whole event's life fit
  pub move_fit : (vs : Setup) (c : Cluster) (n : ℕ) (cs : List Cause) (places : List ℕ) (ls : List Doing) → ClusterOk mean vs c → ActFits mean kind vs c (Moves n cs places ls) → AllFit mean kind (c.lives n) ls
  move_fit vs c n cs places ls old h =
      let f = moved vs c n cs places ls h in
      all_fit (world_logs vs c (Moves n cs places ls)) (c.lives n) ls (λ k. midway_weave_holds vs c.raft (Acts n cs places) old.weaves f.weaves f.runs k) f.life

  pub break_fit : (vs : Setup) (c : Cluster) (n : ℕ) (cs : List Cause) (acts applied base : ℕ) (ls : List Doing) → ClusterOk mean vs c → ActFits mean kind vs c (Breaks n cs acts applied base ls) → AllFit mean kind (c.lives n) ls
  break_fit vs c n cs acts applied base ls old h =
      let f = broken vs c n cs acts applied base ls h in
      ⊎_elim
      (λ (up : (node_at vs c.raft n).up ≡ true). all_fit (world_logs vs c (Breaks n cs acts applied base ls)) (c.lives n) ls (λ k. midway_weave_holds vs c.raft (Stops n cs acts applied base) old.weaves f.weaves up k) (f.life up))
      (λ (down : (node_at vs c.raft n).up ≡ false). subst (AllFit mean kind (c.lives n)) (sym (f.down down)) tt)
      (cases_Bool (node_at vs c.raft n).up)

  pub move_term : (vs : Setup) (c : Cluster) (n : ℕ) (cs : List Cause) (places : List ℕ) (ls : List Doing) → ActFits mean kind vs c (Moves n cs places ls) → (lives_on (c.lives n) ls).term ≡ (node_at vs (raft_after c (Moves n cs places ls)) n).term
  move_term vs c n cs places ls h = (moved vs c n cs places ls h).coherent.term

  pub move_applied : (vs : Setup) (c : Cluster) (n : ℕ) (cs : List Cause) (places : List ℕ) (ls : List Doing) → ActFits mean kind vs c (Moves n cs places ls) → (lives_on (c.lives n) ls).applied ≡ (node_at vs (raft_after c (Moves n cs places ls)) n).commit
  move_applied vs c n cs places ls h = (moved vs c n cs places ls h).coherent.applied

  move_ok : (vs : Setup) (c : Cluster) (n : ℕ) (cs : List Cause) (places : List ℕ) (ls : List Doing) → ClusterOk mean vs c → MoveFits mean kind vs c n cs places ls → LifeAfter mean vs c (Moves n cs places ls) n (lives_on (c.lives n) ls) (drop (length (c.lives n).said) (lives_on (c.lives n) ls).said)
  move_ok vs c n cs places ls old h =
      let a = Moves n cs places ls in
      let es = raft_after c a in
      let w = c.lives n in
      let new = lives_on w ls in
      let fit = all_fit (world_logs vs c a) w ls (λ k. midway_weave_holds vs c.raft (Acts n cs places) old.weaves h.weaves h.runs k) h.life in
      let ok = run_ok mean kind w ls fit (old.lives n) in
      let indexed = indexed_run w ls fit (old.lives n) (old.indexed n) in
      let co = h.coherent in
      let front = done_chosen vs es n new co in
      record {
        weaves = h.weaves;
        life = ok;
        indexed = indexed;
        coherent = λ u. co;
        front = front;
        said = said_drop (log_seen (chosen vs es)) (length w.said) new.said (said_front new.applied (log_seen (chosen vs es)) new.said (subst (λ l. AllSaid mean l new.said) front.is ok.said));
        rooted = rooted_now vs es n new _ co (indexed_drop new.applied (length w.said) new.said indexed) h.terms;
      }

  break_ok : (vs : Setup) (c : Cluster) (n : ℕ) (cs : List Cause) (acts applied base : ℕ) (ls : List Doing) → ClusterOk mean vs c → BreakFits mean kind vs c n cs acts applied base ls → LifeAfter mean vs c (Breaks n cs acts applied base ls) n (lives_on (c.lives n) ls) []
  break_ok vs c n cs acts applied base ls old h =
      let a = Breaks n cs acts applied base ls in
      let e = Stops n cs acts applied base in
      let w = c.lives n in
      let new = lives_on w ls in
      let gone : (node_at vs (raft_after c a) n).up ≡ true → Coherent new (node_at vs (raft_after c a) n) = λ u. absurd (down_after vs c.raft e n (older base (applied_to applied (stopped vs (run vs c.raft) n cs acts))) refl u) in
      ⊎_elim
      (λ (up : (node_at vs c.raft n).up ≡ true).
      let fit = all_fit (world_logs vs c a) w ls (λ k. midway_weave_holds vs c.raft e old.weaves h.weaves up k) (h.life up) in
      record {
        weaves = h.weaves;
        life = run_ok mean kind w ls fit (old.lives n);
        indexed = indexed_run w ls fit (old.lives n) (old.indexed n);
        coherent = gone;
        front = ended_chosen vs c.raft e new (h.ended up);
        said = tt;
        rooted = tt;
      })
      (λ (down : (node_at vs c.raft n).up ≡ false).
      let none : lives_on w ls ≡ w = ap (lives_on w) (h.down down) in
      record {
        weaves = h.weaves;
        life = subst (LifeOk mean) (sym none) (old.lives n);
        indexed = subst (λ (l : Life). AllIndexed l.applied l.said) (sym none) (old.indexed n);
        coherent = gone;
        front = subst (λ l. FrontOf l (log_seen (chosen vs (raft_after c a)))) (sym none) (front_more vs c.raft (e ∷ []) w (old.front n));
        said = tt;
        rooted = tt;
      })
      (cases_Bool (node_at vs c.raft n).up)

  start_ok : (vs : Setup) (c : Cluster) (n : ℕ) (servers : List Server) → ClusterOk mean vs c → let a = Starts n servers in LifeAfter mean vs c a n (cond (node_at vs c.raft n).up (c.lives n) (booted (node_at vs (raft_after c a) n))) []
  start_ok vs c n servers old =
      let a = Starts n servers in
      let e = Start n servers in
      let es = raft_after c a in
      cond_both (node_at vs c.raft n).up (c.lives n) (booted (node_at vs es n)) (λ l. LifeAfter mean vs c a n l [])
      (λ up.
      let same : node_at vs es n ≡ node_at vs c.raft n = ap (λ (w : World). w.nodes n) (run_snoc vs c.raft e ∙ cond-true (node_at vs c.raft n).up (run vs c.raft) (put (run vs c.raft) n (loaded true servers (stored_of (node_at vs c.raft n))) []) up) in
      same_life vs c a n old (λ u. tt) (λ u. subst (Coherent (c.lives n)) (sym same) (old.coherent n up)))
      (λ down.
      let x = loaded true servers (stored_of (node_at vs c.raft n)) in
      let node : node_at vs es n ≡ x = ap (λ (w : World). w.nodes n) (run_snoc vs c.raft e ∙ cond-false (node_at vs c.raft n).up (run vs c.raft) (put (run vs c.raft) n x []) down) ∙ put_here (run vs c.raft) n x [] in
      let co : Coherent (booted (node_at vs es n)) (node_at vs es n) = record { log = refl; applied = refl; term = refl; leads = sym (ap (λ (s : Node). is_leader s.role) node) } in
      record {
        weaves = λ u. tt;
        life = boot_ok vs es n (weave_next vs c.raft (e ∷ []) old.weaves ((λ u. tt), tt));
        indexed = tt;
        coherent = λ u. co;
        front = done_chosen vs es n (booted (node_at vs es n)) co;
        said = tt;
        rooted = tt;
      })

  pub act_ok : (vs : Setup) (c : Cluster) (a : Act) → ClusterOk mean vs c → ActFits mean kind vs c a → ClusterOk mean vs (acted vs c a)
  unfolding acted
  act_ok vs c (Moves n cs places ls) old h = act_with vs c (Moves n cs places ls) n _ _ refl old (move_ok vs c n cs places ls old (moved vs c n cs places ls h))
  act_ok vs c (Breaks n cs acts applied base ls) old h = act_with vs c (Breaks n cs acts applied base ls) n _ _ refl old (break_ok vs c n cs acts applied base ls old (broken vs c n cs acts applied base ls h))
  act_ok vs c (Crashes n) old h = act_with vs c (Crashes n) n _ _ refl old (same_life vs c (Crashes n) n old (λ u. tt) (λ u. absurd (down_after vs c.raft (Crash n) n (stored_of (node_at vs c.raft n)) refl u)))
  act_ok vs c (Starts n servers) old h = act_with vs c (Starts n servers) n _ _ refl old (start_ok vs c n servers old)

  all_ok : (vs : Setup) (acts : List Act) (c : Cluster) → ClusterOk mean vs c → ActsFit mean kind vs c acts → ClusterOk mean vs (cluster_from vs c acts)
  all_ok vs [] c a h = a
  all_ok vs (x ∷ acts) c a h = all_ok vs acts (acted vs c x) (act_ok vs c x a h.0) h.1

  first_ok : (vs : Setup) → ClusterOk mean vs first_cluster
  unfolding run
  first_ok vs = record {
    weaves = tt;
    lives = λ n. started_ok mean kind [] 0 0 (omega arith) no_entries;
    indexed = λ n. tt;
    coherent = λ n up. record { log = refl; applied = refl; term = refl; leads = refl };
    front = λ n. record { low = omega arith; is = refl };
    said = tt;
    rooted = tt;
  }

  pub cluster_ok : (vs : Setup) (acts : List Act) → ActsFit mean kind vs first_cluster acts → ClusterOk mean vs (cluster vs acts)
  unfolding cluster
  cluster_ok vs acts h = all_ok vs acts first_cluster (first_ok vs) h

  in_time_at : (vs : Setup) (c : Cluster) (a : Act) → ClusterOk mean vs c → ActFits mean kind vs c a → AllInTime vs c.raft (raft_after c a) (actor (event_of a)) (said_of c a)
  in_time_at vs c (Moves n cs places ls) old h =
      let w = c.lives n in
      let f = moved vs c n cs places ls h in
      let r = said_run w ls (move_fit vs c n cs places ls old h) (old.lives n) in
      let new : said_in w ls ≡ r.0 = ap (drop (length w.said)) r.1 ∙ drop-append_seam w.said r.0 in
      in_time vs c.raft (raft_after c (Moves n cs places ls)) n w.applied (lives_on w ls) (said_in w ls) (old.coherent n f.runs).applied f.coherent
      (subst (AllBetween w.applied (lives_on w ls).applied) (sym new) r.2)
      f.terms
  in_time_at vs c (Breaks n cs acts applied base ls) old h = tt
  in_time_at vs c (Crashes n) old h = tt
  in_time_at vs c (Starts n servers) old h = tt

  pub fit_parts : (vs : Setup) (acts more : List Act) (c : Cluster) → ActsFit mean kind vs c (acts ++ more) → ActsFit mean kind vs c acts × ActsFit mean kind vs (cluster_from vs c acts) more
  fit_parts vs [] more c h = (tt, h)
  fit_parts vs (a ∷ acts) more c h = let r = fit_parts vs acts more (acted vs c a) h.1 in ((h.0, r.0), r.1)

  pub answers_in_time_hold : AnswersInTime mean kind
  unfolding cluster
  answers_in_time_hold vs acts a h =
      let c = cluster_from vs first_cluster acts in
      let p = fit_parts vs acts (a ∷ []) first_cluster h in
      let join = cluster_join vs acts (a ∷ []) first_cluster in
      let ok = all_ok vs acts first_cluster (first_ok vs) p.0 in (
        ap (λ (d : Cluster). d.said) join ∙ said_after vs c a,
        subst (λ es. AllInTime vs c.raft es (actor (event_of a)) (said_of c a)) (sym (ap (λ (d : Cluster). d.raft) join ∙ raft_of vs c a)) (in_time_at vs c a ok p.1.0),
      )

  pub clusters_are_safe_hold : ClustersAreSafe mean kind
  clusters_are_safe_hold vs acts h =
      let c = cluster vs acts in
      let a = cluster_ok vs acts h in
      record {
        one_list = λ n. let f = a.front n in (f.low, f.is);
        images = λ n. ap files (a.front n).is;
        servers = λ n up.
            let co = a.coherent n up in
            ap (λ k. configuration vs (take k (log_at vs c.raft n))) co.applied ∙ ap (configuration vs) (applied_chosen_holds vs c.raft n).2 ∙ ap (λ k. configuration vs (take k (chosen vs c.raft))) (sym co.applied);
        said = a.said;
        stands = all_stand vs c c.said a.rooted;
        woven = chosen_weaves_hold vs c.raft a.weaves;
      }

  pub alike_files_hold : AlikeFiles mean kind
  alike_files_hold vs acts n m h e =
      let c = cluster vs acts in
      let s = clusters_are_safe_hold vs acts h in
      ap files ((s.one_list n).1 ∙ ap (λ k. take k (chosen_seen vs c)) e ∙ sym (s.one_list m).1)

pub stops_are_safe_hold : StopsAreSafe
stops_are_safe_hold vs es e = ap (configuration vs) (events_chosen_holds vs es e).2

said_from : (vs : Setup) (acts : List Act) (c : Cluster) → (more : List Said) × ((cluster_from vs c acts).said ≡ c.said ++ more)
said_from vs [] c = ([], sym (append-nil c.said))
said_from vs (a ∷ acts) c =
    let rest = said_from vs acts (acted vs c a) in
    (said_of c a ++ rest.0, rest.1 ∙ ap (λ l. l ++ rest.0) (said_after vs c a) ∙ append_assoc c.said (said_of c a) rest.0)

pub replies_stay_hold : RepliesStay
unfolding cluster
replies_stay_hold vs acts more =
    let c = cluster_from vs first_cluster acts in
    let r = said_from vs more c in
    ap (take (length c.said)) (ap (λ (d : Cluster). d.said) (cluster_join vs acts more first_cluster) ∙ r.1) ∙ take_at c.said r.0 (length c.said) refl
