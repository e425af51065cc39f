-- What a node said in a run is what its life said.
use Rattle.std.proofs.Common.{◌≡◌, ◌≢◌, ◌⊎◌, inl, inr, ℕ, zero, suc, take, arith, Bool, true, false, List, [], ◌∷◌, ◌++◌, length, map, drop, refl, sym, ap, ◌∙◌, subst, ⊎_elim, append_assoc}
use Rattle.std.specs.Prelude.{cond, ◌==◌}
use Rattle.std.proofs.Math.Seq.{drop-append_seam}
use Rattle.std.proofs.lemmas.Bool.{cond-true, cond-false, ne_eqb, eq-eqb, cases_eq}
use Rattle.std.proofs.lemmas.List.{append-nil, map-append}
use Rattle.sql_engine.specs.declared.kind.EngineKind.{EngineKind}
use Rattle.sql_engine.specs.Meanings.{Meaning}
use Rattle.session_spec.specs.Sessions.{Reply}
use Rattle.session_safety.specs.Nodes.{Said, Node as Life}
use Rattle.session_safety.specs.Life.{Event as Doing, AllFit, happens as goes_on, run_from as lives_on}
use Rattle.session_safety.proofs.Invariant.{NodeOk as LifeOk}
use Rattle.session_safety.proofs.Lives.{happens_ok}
use Rattle.session_safety.proofs.Lasts.{step_here}
use Rattle.raft_safety.specs.Members.{Setup}
use Rattle.store_laws.specs.Store.{Kept}
use Rattle.cluster_model.specs.Clusters.{Act, Moves, Breaks, Crashes as Halts, Starts as Boots, all_doings, said_in, first_cluster, cluster, ActFits, ActsFit}
use Rattle.cluster_model.specs.Laws.{NoneStarts}
use Rattle.cluster_model.proofs.Clusters.{cluster_ok, fit_parts, replies_stay_hold, move_fit, break_fit}
use Rattle.cluster_model.proofs.Seeing.{life_later}
use Rattle.node_spec.specs.Nodes.{Node}
use Rattle.node_spec.specs.Steps.{told}
use Rattle.cluster_safety.specs.Runs.{Place, Up, Down, Run, Spoken, spoken, run_from, Goes, Fails, Crashes, Starts, StartFails, Event, kept_at, happens, Holds, AllHold}
use Rattle.cluster_safety.specs.Acts.{RunIs, spoken_to, NotStarted, GoesOn}
use Rattle.cluster_safety.specs.Laws.{replies_in, spoken_by, spoken_in, said_at}
use Rattle.cluster_safety.proofs.Letters.{causes}
use Rattle.cluster_safety.proofs.Runs.{said_more, goes, fails, start_fails, step, go_none, go_join, started_parts}

-- ---- what is said

-- the account of the replies since
abbrev pub newly : Setup → List Act → List Act → List Said
newly vs acts later = drop (length (cluster vs acts).said) (cluster vs (acts ++ later)).said

-- The replies of the life. The account has those that were sent, which are a prefix.
pub record Spoke (vs : Setup) (acts later : List Act) (n : ℕ) (replies : List (ℕ × Reply)) (sp : List Spoken) : Type 0 where
  pub more : List Said
  pub rest : List (ℕ × Reply)
  pub said : ((cluster vs (acts ++ later)).lives n).said ≡ ((cluster vs acts).lives n).said ++ more
  pub are : map told more ≡ replies ++ rest
  pub own : List Said
  pub mine : more ≡ said_at n sp (newly vs acts later) ++ own

-- all that the life said was said, or the node is down
abbrev IsWhole : Place → List (ℕ × Reply) → List Said → Type 0
IsWhole p rest own = ((rest ≡ []) × (own ≡ [])) ⊎ ((kept : Kept) × (p ≡ Down kept))

record SpokeOne (vs : Setup) (acts later : List Act) (n : ℕ) (replies : List (ℕ × Reply)) (p : Place) (sp : List Spoken) : Type 0 where
  is : Spoke vs acts later n replies sp
  whole : IsWhole p is.rest is.own

-- ---- accounts

spoken_all : (k : ℕ) (replies : List (ℕ × Reply)) → map spoken_to (map (spoken k) replies) ≡ replies
spoken_all k [] = refl
spoken_all k (p ∷ replies) = ap (λ l. p ∷ l) (spoken_all k replies)

at_mine : (k : ℕ) (replies : List (ℕ × Reply)) (xs : List Said) → length replies ≡ length xs → said_at k (map (spoken k) replies ++ []) xs ≡ xs
at_mine k [] [] e = refl
at_mine k [] (x ∷ xs) e = absurd (omega (arith, e))
at_mine k (p ∷ replies) [] e = absurd (omega (arith, e))
at_mine k (p ∷ replies) (x ∷ xs) e =
    let less : length replies ≡ length xs = omega (arith, e) in
    ap (λ l. l ++ said_at k (map (spoken k) replies ++ []) xs) (cond-true (k == k) (x ∷ []) [] (eq-eqb k k refl)) ∙ ap (λ l. x ∷ l) (at_mine k replies xs less)

at_other : (n k : ℕ) (replies : List (ℕ × Reply)) (xs : List Said) → k ≢ n → said_at n (map (spoken k) replies ++ []) xs ≡ []
at_other n k [] xs e = refl
at_other n k (p ∷ replies) [] e = refl
at_other n k (p ∷ replies) (x ∷ xs) e =
    ap (λ l. l ++ said_at n (map (spoken k) replies ++ []) xs) (cond-false (k == n) (x ∷ []) [] (ne_eqb k n e)) ∙ at_other n k replies xs e

pub at_append : (n : ℕ) (ss ts : List Spoken) (xs ys : List Said) → length ss ≡ length xs → said_at n (ss ++ ts) (xs ++ ys) ≡ said_at n ss xs ++ said_at n ts ys
at_append n [] ts [] ys e = refl
at_append n [] ts (x ∷ xs) ys e = absurd (omega (arith, e))
at_append n (s ∷ ss) ts [] ys e = absurd (omega (arith, e))
at_append n (s ∷ ss) ts (x ∷ xs) ys e =
    let less : length ss ≡ length xs = omega (arith, e) in
    ap (λ l. cond (s.node == n) (x ∷ []) [] ++ l) (at_append n ss ts xs ys less) ∙ sym (append_assoc (cond (s.node == n) (x ∷ []) []) (said_at n ss xs)
    (said_at n ts ys))

-- the replies of a node
abbrev told_by : ℕ → List Spoken → List (ℕ × Reply)
told_by n [] = []
told_by n (s ∷ ss) = cond (s.node == n) (spoken_to s ∷ []) [] ++ told_by n ss

map_cond : (b : Bool) (x : Said) (p : ℕ × Reply) → told x ≡ p → map told (cond b (x ∷ []) []) ≡ cond b (p ∷ []) []
map_cond true x p e = ap (λ q. q ∷ []) e
map_cond false x p e = refl

pub told_at : (n : ℕ) (ss : List Spoken) (xs : List Said) → map spoken_to ss ≡ map told xs → map told (said_at n ss xs) ≡ told_by n ss
told_at n [] xs e = refl
told_at n (s ∷ ss) [] e = absurd cc
told_at n (s ∷ ss) (x ∷ xs) e =
    let one : told x ≡ spoken_to s = cc in
    let more : map spoken_to ss ≡ map told xs = cc in
    map-append told (cond (s.node == n) (x ∷ []) []) (said_at n ss xs)
    ∙ ap (λ l. l ++ map told (said_at n ss xs)) (map_cond (s.node == n) x (spoken_to s) one)
    ∙ ap (λ l. cond (s.node == n) (spoken_to s ∷ []) [] ++ l) (told_at n ss xs more)

by_mine : (k : ℕ) (replies : List (ℕ × Reply)) (ts : List Spoken) → told_by k (map (spoken k) replies ++ ts) ≡ replies ++ told_by k ts
by_mine k [] ts = refl
by_mine k (p ∷ replies) ts =
    ap (λ l. l ++ told_by k (map (spoken k) replies ++ ts)) (cond-true (k == k) (p ∷ []) [] (eq-eqb k k refl)) ∙ ap (λ l. p ∷ l) (by_mine k replies ts)

by_other : (n k : ℕ) (replies : List (ℕ × Reply)) (ts : List Spoken) → k ≢ n → told_by n (map (spoken k) replies ++ ts) ≡ told_by n ts
by_other n k [] ts e = refl
by_other n k (p ∷ replies) ts e =
    ap (λ l. l ++ told_by n (map (spoken k) replies ++ ts)) (cond-false (k == n) (p ∷ []) [] (ne_eqb k n e)) ∙ by_other n k replies ts e

pub told_in : (n : ℕ) (events : List Event) → told_by n (spoken_in events) ≡ replies_in n events
told_in n [] = refl
told_in n (Goes k came added new letters replies jobs ∷ events) = ⊎_elim
    (λ (q : n ≡ k).
    subst (λ j. told_by j (map (spoken k) replies ++ spoken_in events) ≡ cond (j == k) replies [] ++ replies_in j events) (sym q)
    (by_mine k replies (spoken_in events) ∙ ap (λ l. replies ++ l) (told_in k events) ∙ ap (λ l. l ++ replies_in k events)
    (sym (cond-true (k == k) replies [] (eq-eqb k k refl)))))
    (λ (q : n ≢ k).
    by_other n k replies (spoken_in events) (λ e. q (sym e)) ∙ told_in n events ∙ ap (λ l. l ++ replies_in n events)
    (sym (cond-false (n == k) replies [] (ne_eqb n k q))))
    (cases_eq n k)
told_in n (Fails k came added kept ∷ events) = told_in n events
told_in n (Crashes k ∷ events) = told_in n events
told_in n (Starts k servers new ∷ events) = told_in n events
told_in n (StartFails k kept ∷ events) = told_in n events

pub run_said : (r : Run) (events : List Event) → (run_from r events).said ≡ r.said ++ spoken_in events
run_said r [] = sym (append-nil r.said)
run_said r (e ∷ events) = run_said (happens r e) events ∙ ap (λ l. l ++ spoken_in events) (one e) ∙ append_assoc r.said (spoken_by e) (spoken_in events)
  where
    one : (e : Event) → (happens r e).said ≡ r.said ++ spoken_by e
    one (Goes k came added new letters replies jobs) = refl
    one (Fails k came added kept) = refl
    one (Crashes k) = refl
    one (Starts k servers new) = refl
    one (StartFails k kept) = refl

spoken_join : (e : Event) (events : List Event) → spoken_in (e ∷ events) ≡ spoken_in (e ∷ []) ++ spoken_in events
spoken_join e events = ap (λ l. l ++ spoken_in events) (sym (append-nil (spoken_by e)))

cancel : (a b x y : List (ℕ × Reply)) → a ≡ b → a ++ x ≡ b ++ y → x ≡ y
cancel a b x y e f = sym (drop-append_seam a x) ∙ ap (drop (length a)) (f ∙ ap (λ l. l ++ y) (sym e)) ∙ drop-append_seam a y

told_length : (xs : List Said) → length (map told xs) ≡ length xs
told_length [] = refl
told_length (x ∷ xs) = ap suc (told_length xs)

none_told : (xs : List Said) → map told xs ≡ [] → xs ≡ []
none_told [] e = refl
none_told (x ∷ xs) e = absurd cc

same_size : (ss : List Spoken) (xs : List Said) → map spoken_to ss ≡ map told xs → length ss ≡ length xs
same_size [] [] e = refl
same_size [] (x ∷ xs) e = absurd cc
same_size (s ∷ ss) [] e = absurd cc
same_size (s ∷ ss) (x ∷ xs) e = let more : map spoken_to ss ≡ map told xs = cc in ap suc (same_size ss xs more)

no_cond : (b : Bool) (xs : List Doing) → xs ≡ [] → cond b xs [] ≡ []
no_cond true xs e = e
no_cond false xs e = refl

join_whole : (r1 r2 t2 a b : List (ℕ × Reply)) → a ≡ r1 ++ [] → b ≡ r2 ++ t2 → a ++ b ≡ (r1 ++ r2) ++ t2
join_whole r1 r2 t2 a b e f = ap (λ l. l ++ b) (e ∙ append-nil r1) ∙ ap (λ l. r1 ++ l) f ∙ sym (append_assoc r1 r2 t2)

join_down : (r1 r2 t1 t2 a b : List (ℕ × Reply)) → a ≡ r1 ++ t1 → b ≡ r2 ++ t2 → r2 ≡ [] → a ++ b ≡ (r1 ++ r2) ++ (t1 ++ t2)
join_down r1 r2 t1 t2 a b e f z =
    ap (λ l. l ++ b) e ∙ ap (λ l. (r1 ++ t1) ++ l) (f ∙ ap (λ l. l ++ t2) z) ∙ append_assoc r1 t1 t2 ∙ sym (ap (λ l. l ++ (t1 ++ t2)) (ap (λ l. r1 ++ l) z ∙ append-nil r1))

replies_join : (n : ℕ) (e : Event) (events : List Event) → replies_in n (e ∷ events) ≡ replies_in n (e ∷ []) ++ replies_in n events
replies_join n (Goes k came added new letters replies jobs) events = sym (ap (λ l. l ++ replies_in n events) (append-nil (cond (n == k) replies [])))
replies_join n (Fails k came added kept) events = refl
replies_join n (Crashes k) events = refl
replies_join n (Starts k servers new) events = refl
replies_join n (StartFails k kept) events = refl

not_up : (p : Place) (kept : Kept) (v : Node) → p ≡ Down kept → p ≡ Up v → ⊥
not_up p kept v d u = cc

module _ (mean : Meaning) (kind : EngineKind) where
  pub life_said : (w : Life) (es : List Doing) → AllFit mean kind w es → LifeOk mean w → (more : List Said) × ((lives_on w es).said ≡ w.said ++ more)
  life_said w [] h a = ([], sym (append-nil w.said))
  life_said w (e ∷ es) h a =
      let now = step_here mean kind w e a in
      let rest = life_said (goes_on w e) es h.1 (happens_ok mean kind w e h.0 a) in
      (now.0 ++ rest.0, rest.1 ∙ ap (λ l. l ++ rest.0) now.1 ∙ append_assoc w.said now.0 rest.0)

  pub last_fits : (vs : Setup) (acts : List Act) (a : Act) → ActsFit mean kind vs first_cluster (acts ++ a ∷ []) → ActFits mean kind vs (cluster vs acts) a
  unfolding cluster
  last_fits vs acts a h = (fit_parts mean kind vs acts (a ∷ []) first_cluster h).1.0

  -- a node that nothing happens to
  none_said : (vs : Setup) (acts later : List Act) (n : ℕ) (p : Place) (sp : List Spoken) → NoneStarts n later → all_doings n later ≡ [] →
      said_at n sp (newly vs acts later) ≡ [] →
      SpokeOne vs acts later n [] p sp
  none_said vs acts later n p sp h e z = record {
    is = record {
      own = [];
      mine = sym (ap (λ l. l ++ []) z);
      more = [];
      rest = [];
      said = ap (λ (w : Life). w.said) (life_later vs acts later n h
          ∙ ap (lives_on ((cluster vs acts).lives n)) e) ∙ sym (append-nil ((cluster vs acts).lives n).said);
      are = refl;
    };
    whole = inl (refl, refl);
  }

  pub mine : (k : ℕ) (life : List Doing) → cond (k == k) life [] ++ [] ≡ life
  mine k life = append-nil (cond (k == k) life []) ∙ cond-true (k == k) life [] (eq-eqb k k refl)

  not_mine : (n k : ℕ) (life : List Doing) → n ≢ k → cond (n == k) life [] ++ [] ≡ []
  not_mine n k life e = append-nil (cond (n == k) life []) ∙ cond-false (n == k) life [] (ne_eqb n k e)

  step_speaks : (vs : Setup) (r : Run) (acts : List Act) (e : Event) (was : RunIs mean kind vs r acts) (h : Holds mean kind vs r e) (n : ℕ) →
      NotStarted n (e ∷ []) → SpokeOne vs acts (step mean kind vs r acts e was h).later n (replies_in n (e ∷ [])) ((happens r e).places n)
      (spoken_in (e ∷ []))
  unfolding step
  step_speaks vs r acts (Goes k came added new letters replies jobs) was h n ns =
      let x = goes mean kind vs r acts k came added h.0 new letters replies jobs h.1 h.2 h.3 h.4 was in
      let c = cluster vs acts in
      let a = Moves k (causes came added) x.places x.life in
      let e = Goes k came added new letters replies jobs in
      ⊎_elim
      (λ (q : n ≡ k).
      let s = life_said (c.lives k) x.life (move_fit mean kind vs c k (causes came added) x.places x.life (cluster_ok mean kind vs acts was.fit) (last_fits vs acts a x.is.fit)) ((cluster_ok mean kind vs acts was.fit).lives k) in
      let new_said : said_in (c.lives k) x.life ≡ s.0 = ap (drop (length (c.lives k).said)) s.1 ∙ drop-append_seam (c.lives k).said s.0 in
      let shown : cond (k == k) replies [] ++ [] ≡ replies = append-nil (cond (k == k) replies []) ∙ cond-true (k == k) replies [] (eq-eqb k k refl) in
      let news : newly vs acts (a ∷ []) ≡ said_in (c.lives k) x.life = ap (drop (length c.said)) (said_more mean kind vs acts a x.is.fit)
      ∙ drop-append_seam c.said (said_in (c.lives k) x.life) in
      let long : length replies ≡ length (newly vs acts (a ∷ [])) = ap length x.says ∙ told_length (said_in (c.lives k) x.life) ∙ ap length (sym news) in
      subst (λ j. SpokeOne vs acts (a ∷ []) j (replies_in j (e ∷ [])) ((happens r e).places j) (spoken_in (e ∷ []))) (sym q) (record {
        is = record {
          own = [];
          mine = sym new_said ∙ sym news ∙ sym (at_mine k replies (newly vs acts (a ∷ [])) long)
              ∙ sym (append-nil (said_at k (map (spoken k) replies ++ []) (newly vs acts (a ∷ []))));
          more = s.0;
          rest = [];
          said = ap (λ (w : Life). w.said) (life_later vs acts (a ∷ []) k tt ∙ ap (lives_on (c.lives k)) (mine k x.life)) ∙ s.1;
          are = ap (map told) (sym new_said) ∙ sym x.says ∙ sym shown ∙ sym (append-nil (cond (k == k) replies [] ++ []));
        };
        whole = inl (refl, refl);
      }))
      (λ (q : n ≢ k).
      let shown : cond (n == k) replies [] ++ [] ≡ [] = append-nil (cond (n == k) replies []) ∙ cond-false (n == k) replies [] (ne_eqb n k q) in
      subst (λ l. SpokeOne vs acts (a ∷ []) n l ((happens r e).places n) (spoken_in (e ∷ []))) (sym shown)
      (none_said vs acts (a ∷ []) n ((happens r e).places n) (spoken_in (e ∷ [])) tt (not_mine n k x.life q) (at_other n k replies (newly vs acts (a ∷ []))
      (λ z. q (sym z)))))
      (cases_eq n k)
  step_speaks vs r acts (Fails k came added kept) was h n ns =
      let x = fails mean kind vs r acts k came added h.0 kept h.1 h.2 h.3 h.4 was in
      let c = cluster vs acts in
      let a = Breaks k (causes came added) x.upto x.applied x.base x.life in
      let e = Fails k came added kept in
      ⊎_elim
      (λ (q : n ≡ k).
      let s = life_said (c.lives k) x.life (break_fit mean kind vs c k (causes came added) x.upto x.applied x.base x.life (cluster_ok mean kind vs acts was.fit) (last_fits vs acts a x.is.fit)) ((cluster_ok mean kind vs acts was.fit).lives k) in
      subst (λ j. SpokeOne vs acts (a ∷ []) j [] ((happens r e).places j) []) (sym q) (record {
        is = record {
          own = s.0;
          mine = refl;
          more = s.0;
          rest = map told s.0;
          said = ap (λ (w : Life). w.said) (life_later vs acts (a ∷ []) k tt ∙ ap (lives_on (c.lives k)) (mine k x.life)) ∙ s.1;
          are = refl;
        };
        whole = inr (kept, cond-true (k == k) (Down kept) (r.places k) (eq-eqb k k refl));
      }))
      (λ (q : n ≢ k). none_said vs acts (a ∷ []) n ((happens r e).places n) [] tt (not_mine n k x.life q) refl)
      (cases_eq n k)
  step_speaks vs r acts (Crashes k) was h n ns = none_said vs acts (Halts k ∷ []) n _ [] tt refl refl
  step_speaks vs r acts (Starts k servers new) was h n ns = none_said vs acts (Halts k ∷ Boots k servers ∷ []) n _ [] (ns.0, tt) refl refl
  step_speaks vs r acts (StartFails k left) was h n ns =
      let x = start_fails mean kind vs r acts k h.0 left h.1 h.2 was in
      none_said vs acts (Halts k ∷ Breaks k [] 0 0 x.0 [] ∷ []) n _ [] tt (append-nil (cond (n == k) [] []) ∙ no_cond (n == k) [] refl) refl

  -- a node that is down, and isn't started, says nothing
  down_says : (vs : Setup) (r : Run) (events : List Event) (n : ℕ) (kept : Kept) → r.places n ≡ Down kept → AllHold mean kind vs r events → NotStarted n events → replies_in n events ≡ []
  down_says vs r [] n kept d h s = refl
  down_says vs r (Goes k came added new letters replies jobs ∷ events) n kept d h s =
      let e = Goes k came added new letters replies jobs in
      ⊎_elim
      (λ (q : n ≡ k). absurd (not_up (r.places n) kept h.0.0 d (ap r.places q ∙ h.0.2)))
      (λ (q : n ≢ k).
      ap (λ l. l ++ replies_in n events) (cond-false (n == k) replies [] (ne_eqb n k q)) ∙ down_says vs (happens r e) events n kept (cond-false (n == k) (Up new) (r.places n) (ne_eqb n k q) ∙ d) h.1 s)
      (cases_eq n k)
  down_says vs r (Fails k came added left ∷ events) n kept d h s =
      ⊎_elim
      (λ (q : n ≡ k). down_says vs (happens r (Fails k came added left)) events n left (cond-true (n == k) (Down left) (r.places n) (eq-eqb n k q)) h.1 s)
      (λ (q : n ≢ k). down_says vs (happens r (Fails k came added left)) events n kept (cond-false (n == k) (Down left) (r.places n) (ne_eqb n k q) ∙ d) h.1 s)
      (cases_eq n k)
  down_says vs r (Crashes k ∷ events) n kept d h s =
      ⊎_elim
      (λ (q : n ≡ k). down_says vs (happens r (Crashes k)) events n (kept_at (r.places k)) (cond-true (n == k) (Down (kept_at (r.places k))) (r.places n) (eq-eqb n k q)) h.1 s)
      (λ (q : n ≢ k). down_says vs (happens r (Crashes k)) events n kept (cond-false (n == k) (Down (kept_at (r.places k))) (r.places n) (ne_eqb n k q) ∙ d) h.1 s)
      (cases_eq n k)
  down_says vs r (Starts k servers new ∷ events) n kept d h s =
      down_says vs (happens r (Starts k servers new)) events n kept (cond-false (n == k) (Up new) (r.places n) (ne_eqb n k s.0) ∙ d) h.1 s.1
  down_says vs r (StartFails k left ∷ events) n kept d h s =
      ⊎_elim
      (λ (q : n ≡ k). down_says vs (happens r (StartFails k left)) events n left (cond-true (n == k) (Down left) (r.places n) (eq-eqb n k q)) h.1 s)
      (λ (q : n ≢ k). down_says vs (happens r (StartFails k left)) events n kept (cond-false (n == k) (Down left) (r.places n) (ne_eqb n k q) ∙ d) h.1 s)
      (cases_eq n k)

  -- the account of earlier replies stays, and the account since is that of the run's replies since
  pub grown : (vs : Setup) (acts later : List Act) → (cluster vs (acts ++ later)).said ≡ (cluster vs acts).said ++ newly vs acts later
  grown vs acts later =
      let d = (cluster vs (acts ++ later)).said in
      let size = length (cluster vs acts).said in
      sym (take_drop size d) ∙ ap (λ l. l ++ drop size d) (replies_stay_hold vs acts later)
    where
      take_drop : (n : ℕ) (l : List Said) → take n l ++ drop n l ≡ l
      take_drop zero l = refl
      take_drop (suc n) [] = refl
      take_drop (suc n) (x ∷ l) = ap (λ m. x ∷ m) (take_drop n l)

  pub told_newly : (vs : Setup) (r q : Run) (acts later : List Act) (events : List Event) → RunIs mean kind vs r acts →
      RunIs mean kind vs q (acts ++ later) → q ≡ run_from r events →
      map spoken_to (spoken_in events) ≡ map told (newly vs acts later)
  told_newly vs r q acts later events was is same =
      let c = (cluster vs acts).said in
      cancel (map spoken_to r.said) (map told c) (map spoken_to (spoken_in events)) (map told (newly vs acts later)) was.said
      (sym (map-append spoken_to r.said (spoken_in events)) ∙ ap (map spoken_to) (sym (run_said r events)) ∙ ap (λ (z : Run). map spoken_to z.said)
      (sym same) ∙ is.said
      ∙ ap (map told) (grown vs acts later) ∙ map-append told c (newly vs acts later))

  new_join : (vs : Setup) (acts one two : List Act) → newly vs acts (one ++ two) ≡ newly vs acts one ++ newly vs (acts ++ one) two
  new_join vs acts one two =
      let c = (cluster vs acts).said in
      let n1 = newly vs acts one in
      let n2 = newly vs (acts ++ one) two in
      ap (λ (l : List Act). drop (length c) (cluster vs l).said) (sym (append_assoc acts one two))
      ∙ ap (drop (length c)) (grown vs (acts ++ one) two ∙ ap (λ l. l ++ n2) (grown vs acts one) ∙ append_assoc c n1 n2)
      ∙ drop-append_seam c (n1 ++ n2)

  -- a run that continues, and what each node says
  pub record Speaks (vs : Setup) (r : Run) (acts : List Act) (events : List Event) : Type 0 where
    pub on : GoesOn mean kind vs r acts events
    pub speaks : (n : ℕ) → NotStarted n events → Spoke vs acts on.later n (replies_in n events) (spoken_in events)

  pub speaks_on : (vs : Setup) (r : Run) (acts : List Act) (events : List Event) → RunIs mean kind vs r acts → AllHold mean kind vs r events → Speaks vs r acts events
  speaks_on vs r acts [] was h = record {
    on = go_none mean kind vs r acts was;
    speaks = λ n s. (none_said vs acts [] n (r.places n) [] tt refl refl).is;
  }
  speaks_on vs r acts (e ∷ events) was h =
      let x = step mean kind vs r acts e was h.0 in
      let all = speaks_on vs (happens r e) (acts ++ x.later) events x.is h.1 in
      let y = all.on in
      record {
        on = go_join mean kind vs r acts e events x y;
        speaks = λ n s.
            let p = started_parts mean kind n e events s in
            let one = step_speaks vs r acts e was h.0 n p.0 in
            let a = one.is in
            let b = all.speaks n p.1 in
            let size = same_size (spoken_in (e ∷ [])) (newly vs acts x.later) (told_newly vs r (happens r e) acts x.later (e ∷ []) was x.is refl) in
            let s1 = said_at n (spoken_in (e ∷ [])) (newly vs acts x.later) in
            let s2 = said_at n (spoken_in events) (newly vs (acts ++ x.later) y.later) in
            let both : said_at n (spoken_in (e ∷ events)) (newly vs acts (x.later ++ y.later)) ≡ s1 ++ s2 =
            ap (λ l. said_at n l (newly vs acts (x.later ++ y.later))) (spoken_join e events) ∙ ap (said_at n (spoken_in (e ∷ []) ++ spoken_in events))
            (new_join vs acts x.later y.later)
            ∙ at_append n (spoken_in (e ∷ [])) (spoken_in events) (newly vs acts x.later) (newly vs (acts ++ x.later) y.later) size in
            let said : ((cluster vs (acts ++ (x.later ++ y.later))).lives n).said ≡ ((cluster vs acts).lives n).said ++ (a.more ++ b.more) =
            ap (λ (l : List Act). ((cluster vs l).lives n).said) (sym (append_assoc acts x.later y.later)) ∙ b.said ∙ ap (λ l. l ++ b.more) a.said ∙ append_assoc ((cluster vs acts).lives n).said a.more b.more in
            ⊎_elim
            (λ (z : (a.rest ≡ []) × (a.own ≡ [])). record {
              own = b.own;
              mine = ap (λ l. l ++ b.more) (a.mine ∙ ap (λ l. s1 ++ l) z.1 ∙ append-nil s1) ∙ ap (λ l. s1 ++ l) b.mine ∙ sym (append_assoc s1 s2 b.own)
                  ∙ ap (λ l. l ++ b.own) (sym both);
              more = a.more ++ b.more;
              rest = b.rest;
              said = said;
              are = map-append told a.more b.more ∙ join_whole (replies_in n (e ∷ [])) (replies_in n events) b.rest (map told a.more) (map told b.more)
                  (a.are ∙ ap (λ l. replies_in n (e ∷ []) ++ l) z.0) b.are ∙ ap (λ l. l ++ b.rest) (sym (replies_join n e events));
            })
            (λ (z : (kept : Kept) × ((happens r e).places n ≡ Down kept)).
            let quiet : s2 ≡ [] = none_told s2 (told_at n (spoken_in events) (newly vs (acts ++ x.later) y.later)
            (told_newly vs (happens r e) (run_from (happens r e) events) (acts ++ x.later) y.later events x.is y.is refl)
            ∙ told_in n events ∙ down_says vs (happens r e) events n z.0 z.1 h.1 p.1) in
            record {
              own = a.own ++ b.own;
              mine = ap (λ l. l ++ b.more) a.mine ∙ ap (λ l. (s1 ++ a.own) ++ l) (b.mine ∙ ap (λ l. l ++ b.own) quiet) ∙ append_assoc s1 a.own b.own
                  ∙ ap (λ l. l ++ (a.own ++ b.own)) (sym (append-nil s1) ∙ ap (λ l. s1 ++ l) (sym quiet) ∙ sym both);
              more = a.more ++ b.more;
              rest = a.rest ++ b.rest;
              said = said;
              are = map-append told a.more b.more ∙ join_down (replies_in n (e ∷ [])) (replies_in n events) a.rest b.rest (map told a.more) (map told b.more) a.are b.are (down_says vs (happens r e) events n z.0 z.1 h.1 p.1) ∙ ap (λ l. l ++ (a.rest ++ b.rest)) (sym (replies_join n e events));
            })
            one.whole;
      }
