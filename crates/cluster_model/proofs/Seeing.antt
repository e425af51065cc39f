-- What a connection of a node has seen.
use Rattle.std.proofs.Common.{◌≡◌, ◌≢◌, ℕ, cond, List, [], ◌∷◌, ◌++◌, refl, sym, ap, ◌∙◌, subst, ⊎_elim}
use Rattle.std.specs.Prelude.{◌==◌}
use Rattle.std.proofs.lemmas.Bool.{cond-true, cond-false, ne_eqb, eq-eqb, cases_eq}
use Rattle.sql_engine.specs.declared.kind.EngineKind.{EngineKind}
use Rattle.sql_engine.specs.Meanings.{Meaning}
use Rattle.session_safety.specs.Nodes.{Node as Life}
use Rattle.session_safety.specs.Life.{Event as Doing, AllFit, happens as goes_on, run_from as lives_on}
use Rattle.session_safety.specs.Laws.{NoneComes}
use Rattle.session_safety.proofs.Sees.{Gone, gone_none, gone_sees, along}
use Rattle.raft_safety.specs.Members.{Setup}
use Rattle.cluster_model.specs.Clusters.{Cluster, Act, Moves, Breaks, Crashes, Starts, doings, all_doings, acted, first_cluster, cluster_from, cluster, ActFits, ActsFit}
use Rattle.cluster_model.specs.Laws.{NoneStarts, ClustersSee}
use Rattle.cluster_model.proofs.Clusters.{ClusterOk, cluster_join, fit_parts, move_fit, break_fit, act_ok, cluster_ok}

pub none_parts : (conn : ℕ) (xs ys : List Doing) → NoneComes conn (xs ++ ys) → NoneComes conn xs × NoneComes conn ys
none_parts conn [] ys h = (tt, h)
none_parts conn (x ∷ xs) ys h = let r = none_parts conn xs ys h.1 in ((h.0, r.0), r.1)

-- a node's life after what one node did
pub life_by : (lives : ℕ → Life) (n k : ℕ) (life : List Doing) → cond (n == k) (lives_on (lives k) life) (lives n) ≡ lives_on (lives n) (cond (n == k) life [])
life_by lives n k life = ⊎_elim
    (λ (e : n ≡ k).
    let q = eq-eqb n k e in
    cond-true (n == k) (lives_on (lives k) life) (lives n) q ∙ ap (λ j. lives_on (lives j) life) (sym e) ∙ ap (lives_on (lives n)) (sym (cond-true (n == k) life [] q)))
    (λ (e : n ≢ k).
    let q = ne_eqb n k e in
    cond-false (n == k) (lives_on (lives k) life) (lives n) q ∙ ap (lives_on (lives n)) (sym (cond-false (n == k) life [] q)))
    (cases_eq n k)

pub same_life : (lives : ℕ → Life) (n k : ℕ) → cond (n == k) (lives k) (lives n) ≡ lives n
same_life lives n k = ⊎_elim (λ (e : n ≡ k). cond-true (n == k) (lives k) (lives n) (eq-eqb n k e) ∙ ap lives (sym e)) (λ (e : n ≢ k). cond-false (n == k) (lives k) (lives n) (ne_eqb n k e)) (cases_eq n k)

-- a node's life after an act that doesn't start it
pub life_after : (vs : Setup) (c : Cluster) (a : Act) (n : ℕ) → NoneStarts n (a ∷ []) → (acted vs c a).lives n ≡ lives_on (c.lives n) (doings n a)
unfolding acted
life_after vs c (Moves k cs places ls) n h = life_by c.lives n k ls
life_after vs c (Breaks k cs acts applied base ls) n h = life_by c.lives n k ls
life_after vs c (Crashes k) n h = same_life c.lives n k
life_after vs c (Starts k servers) n h = cond-false (n == k) _ (c.lives n) (ne_eqb n k h.0)

pub head_starts : (n : ℕ) (a : Act) (more : List Act) → NoneStarts n (a ∷ more) → NoneStarts n (a ∷ []) × NoneStarts n more
head_starts n (Moves k cs places ls) more h = (tt, h)
head_starts n (Breaks k cs acts applied base ls) more h = (tt, h)
head_starts n (Crashes k) more h = (tt, h)
head_starts n (Starts k servers) more h = ((h.0, tt), h.1)

lives_append : (w : Life) (xs ys : List Doing) → lives_on w (xs ++ ys) ≡ lives_on (lives_on w xs) ys
lives_append w [] ys = refl
lives_append w (x ∷ xs) ys = lives_append (goes_on w x) xs ys

pub life_from : (vs : Setup) (more : List Act) (c : Cluster) (n : ℕ) → NoneStarts n more → (cluster_from vs c more).lives n ≡ lives_on (c.lives n) (all_doings n more)
life_from vs [] c n h = refl
life_from vs (a ∷ more) c n h =
    let p = head_starts n a more h in
    life_from vs more (acted vs c a) n p.1 ∙ ap (λ w. lives_on w (all_doings n more)) (life_after vs c a n p.0) ∙ sym (lives_append (c.lives n) (doings n a) (all_doings n more))

-- the life of a node that isn't started continues
pub life_later : (vs : Setup) (acts more : List Act) (n : ℕ) → NoneStarts n more → (cluster vs (acts ++ more)).lives n ≡ lives_on ((cluster vs acts).lives n) (all_doings n more)
unfolding cluster
life_later vs acts more n h = ap (λ (d : Cluster). d.lives n) (cluster_join vs acts more first_cluster) ∙ life_from vs more (cluster_from vs first_cluster acts) n h

module _ (mean : Meaning) (kind : EngineKind) where
  fit_by : (lives : ℕ → Life) (n k : ℕ) (life : List Doing) → AllFit mean kind (lives k) life → AllFit mean kind (lives n) (cond (n == k) life [])
  fit_by lives n k life h = ⊎_elim
      (λ (e : n ≡ k). subst (AllFit mean kind (lives n)) (sym (cond-true (n == k) life [] (eq-eqb n k e))) (subst (λ j. AllFit mean kind (lives j) life) (sym e) h))
      (λ (e : n ≢ k). subst (AllFit mean kind (lives n)) (sym (cond-false (n == k) life [] (ne_eqb n k e))) tt)
      (cases_eq n k)

  pub act_fit : (vs : Setup) (c : Cluster) (a : Act) (n : ℕ) → ClusterOk mean vs c → ActFits mean kind vs c a → AllFit mean kind (c.lives n) (doings n a)
  act_fit vs c (Moves k cs places ls) n old h = fit_by c.lives n k ls (move_fit mean kind vs c k cs places ls old h)
  act_fit vs c (Breaks k cs acts applied base ls) n old h = fit_by c.lives n k ls (break_fit mean kind vs c k cs acts applied base ls old h)
  act_fit vs c (Crashes k) n old h = tt
  act_fit vs c (Starts k servers) n old h = tt

  sees_acts : (vs : Setup) (n conn : ℕ) (u : Life) (more : List Act) (c : Cluster) → ClusterOk mean vs c → ActsFit mean kind vs c more → NoneStarts n more → NoneComes conn (all_doings n more) → Gone conn u (c.lives n) → Gone conn u ((cluster_from vs c more).lives n)
  sees_acts vs n conn u [] c old h starts comes g = g
  sees_acts vs n conn u (a ∷ more) c old h starts comes g =
      let s = head_starts n a more starts in
      let p = none_parts conn (doings n a) (all_doings n more) comes in
      let now = along mean kind conn u (c.lives n) (doings n a) (act_fit vs c a n old h.0) p.0 (old.lives n) g in
      sees_acts vs n conn u more (acted vs c a) (act_ok mean kind vs c a old h.0) h.1 s.1 p.1 (subst (Gone conn u) (sym (life_after vs c a n s.0)) now)

  pub clusters_see_hold : ClustersSee mean kind
  unfolding cluster
  clusters_see_hold vs acts more n conn h starts comes =
      let p = fit_parts mean kind vs acts more first_cluster h in
      let c = cluster_from vs first_cluster acts in
      gone_sees conn (c.lives n) ((cluster_from vs first_cluster (acts ++ more)).lives n)
      (subst (λ d. Gone conn (c.lives n) (d.lives n)) (sym (cluster_join vs acts more first_cluster))
      (sees_acts vs n conn (c.lives n) more c (cluster_ok mean kind vs acts p.0) p.1 starts comes (gone_none conn (c.lives n))))
