-- The voters that a log gives, and lists of voters next to each other.
use Rattle.std.proofs.Common.{◌≡◌, ◌⊎◌, inl, inr, ℕ, zero, suc, ◌+◌, ◌-◌, ◌<◌, ◌≤◌, Bool, true, false, cond, List, [], ◌∷◌, ◌++◌, length, take, drop, refl, sym, ap, ◌∙◌, subst, ⊎_elim, arith, true≢false}
use Rattle.std.specs.Prelude.{◌==◌}
use Rattle.std.specs.List.{count_by}
use Rattle.std.proofs.Math.Seq.{take-add}
use Rattle.std.proofs.lemmas.List.{length-take, take_all}
use Rattle.std.proofs.lemmas.Bool.{cases_lt, cases_Bool, cond-true, cond-false, and_parts, eqb-true, ltb-true}
use Rattle.raft_spec.specs.Log.{Entry}
use Rattle.raft_spec.specs.Node.{Server, majority}
use Rattle.raft_spec.specs.Node.{voters}
use Rattle.raft_safety.specs.Members.{Setup, changes, voters_read, nth_change, change_at, configuration_from, configuration, servers_read, voters_after, same_ids, one_more}
use Rattle.raft_safety.proofs.Logs.{Agree}
use Rattle.raft_safety.proofs.Majorities.{count_yes, count_no, count_up, both_or_few, majorities_meet}

nth-take : (vs : Setup) → (p : ℕ) (xs : List Entry) (k : ℕ) → k < p → nth_change vs (take p xs) k ≡ nth_change vs xs k
nth-take vs zero xs k h = absurd (omega arith)
nth-take vs (suc p) [] k h = refl
nth-take vs (suc p) (x ∷ xs) zero h = refl
nth-take vs (suc p) (x ∷ xs) (suc k) h = nth-take vs p xs k (omega arith)

nth-past : (vs : Setup) → (xs : List Entry) (k : ℕ) → length xs ≤ k → nth_change vs xs k ≡ false
nth-past vs [] k h = refl
nth-past vs (x ∷ xs) zero h = absurd (omega arith)
nth-past vs (x ∷ xs) (suc k) h = nth-past vs xs k (omega arith)

nth-append : (vs : Setup) → (xs ys : List Entry) (k : ℕ) → k < length xs → nth_change vs (xs ++ ys) k ≡ nth_change vs xs k
nth-append vs [] ys k h = absurd (omega arith)
nth-append vs (x ∷ xs) ys zero h = refl
nth-append vs (x ∷ xs) ys (suc k) h = nth-append vs xs ys k (omega arith)

nth-append_right : (vs : Setup) → (xs ys : List Entry) (k : ℕ) → nth_change vs (xs ++ ys) (length xs + k) ≡ nth_change vs ys k
nth-append_right vs [] ys k = let e : 0 + k ≡ k = omega arith in ap (nth_change vs ys) e
nth-append_right vs (x ∷ xs) ys k =
    let e : suc (length xs) + k ≡ suc (length xs + k) = omega arith in
    ap (nth_change vs (x ∷ xs ++ ys)) e ∙ nth-append_right vs xs ys k

nth-drop : (vs : Setup) → (p : ℕ) (xs : List Entry) (k : ℕ) → nth_change vs (drop p xs) k ≡ nth_change vs xs (p + k)
nth-drop vs zero xs k = let e : k ≡ 0 + k = omega arith in ap (nth_change vs xs) e
nth-drop vs (suc p) [] k = refl
nth-drop vs (suc p) (x ∷ xs) k =
    let e : suc (p + k) ≡ suc p + k = omega arith in
    nth-drop vs p xs k ∙ ap (nth_change vs (x ∷ xs)) e

pub change_at-zero : (vs : Setup) → (xs : List Entry) → change_at vs xs 0 ≡ false
unfolding change_at
change_at-zero vs xs = refl

pub change_at-take : (vs : Setup) → (p : ℕ) (xs : List Entry) (i : ℕ) → i ≤ p → change_at vs (take p xs) i ≡ change_at vs xs i
unfolding change_at
change_at-take vs p xs zero h = refl
change_at-take vs p xs (suc k) h = nth-take vs p xs k h

pub change_at-append : (vs : Setup) → (xs ys : List Entry) (i : ℕ) → i ≤ length xs → change_at vs (xs ++ ys) i ≡ change_at vs xs i
unfolding change_at
change_at-append vs xs ys zero h = refl
change_at-append vs xs ys (suc k) h = nth-append vs xs ys k h

pub change_at-new : (vs : Setup) → (xs ys : List Entry) (i : ℕ) → length xs < i → change_at vs (xs ++ ys) i ≡ nth_change vs ys (i - suc (length xs))
unfolding change_at
change_at-new vs xs ys zero h = absurd (omega arith)
change_at-new vs xs ys (suc k) h =
    let e : length xs + (k - length xs) ≡ k = omega arith in
    let f : k - length xs ≡ suc k - suc (length xs) = omega arith in
    ap (nth_change vs (xs ++ ys)) (sym e) ∙ nth-append_right vs xs ys (k - length xs) ∙ ap (nth_change vs ys) f

pub change_at-past : (vs : Setup) → (xs : List Entry) (i : ℕ) → length xs < i → change_at vs xs i ≡ false
unfolding change_at
change_at-past vs xs zero h = absurd (omega arith)
change_at-past vs xs (suc k) h = nth-past vs xs k (omega arith)

pub change_at-drop : (vs : Setup) → (p : ℕ) (xs : List Entry) (i : ℕ) → p < i → nth_change vs (drop p xs) (i - suc p) ≡ change_at vs xs i
unfolding change_at
change_at-drop vs p xs zero h = absurd (omega arith)
change_at-drop vs p xs (suc k) h = let e : p + (suc k - suc p) ≡ k = omega arith in nth-drop vs p xs (suc k - suc p) ∙ ap (nth_change vs xs) e

pub agree_change : {i : ℕ} {xs ys : List Entry} (vs : Setup) (j : ℕ) → j ≤ i → Agree i xs ys → change_at vs xs j ≡ change_at vs ys j
agree_change {i} {xs} {ys} vs j h a = sym (change_at-take vs i xs j h) ∙ ap (λ l. change_at vs l j) a.same ∙ change_at-take vs i ys j h

configuration-append : (vs : Setup) (servers : List Server) (xs ys : List Entry) → configuration_from vs servers (xs ++ ys) ≡ configuration_from vs (configuration_from vs servers xs) ys
configuration-append vs servers [] ys = refl
configuration-append vs servers (x ∷ xs) ys = configuration-append vs (cond (changes vs x) (servers_read (vs.read x.bytes)) servers) xs ys

configuration-quiet : (vs : Setup) (servers : List Server) (ys : List Entry) → ((k : ℕ) → nth_change vs ys k ≡ false) → configuration_from vs servers ys ≡ servers
configuration-quiet vs servers [] h = refl
configuration-quiet vs servers (y ∷ ys) h = ap (λ b. configuration_from vs (cond b (servers_read (vs.read y.bytes)) servers) ys) (h 0) ∙ configuration-quiet vs servers ys (λ k. h (suc k))

-- the voters after one entry more
pub conf_new : (vs : Setup) (xs : List Entry) (e : Entry) → changes vs e ≡ true → voters_after vs (xs ++ e ∷ []) ≡ voters_read (vs.read e.bytes)
unfolding voters_after configuration
conf_new vs xs e c = ap voters (configuration-append vs vs.opening xs (e ∷ []) ∙ ap (λ b. cond b (servers_read (vs.read e.bytes)) (configuration_from vs vs.opening xs)) c)

-- and after one that changes nothing
pub conf_still : (vs : Setup) (xs : List Entry) (e : Entry) → changes vs e ≡ false → voters_after vs (xs ++ e ∷ []) ≡ voters_after vs xs
unfolding voters_after configuration
conf_still vs xs e c = ap voters (configuration-append vs vs.opening xs (e ∷ []) ∙ ap (λ b. cond b (servers_read (vs.read e.bytes)) (configuration_from vs vs.opening xs)) c)

-- no change between two places: the same voters
pub conf_same : (vs : Setup) (xs : List Entry) (i j : ℕ) → i ≤ j → ((k : ℕ) → i < k → k ≤ j → change_at vs xs k ≡ false) → voters_after vs (take j xs) ≡ voters_after vs (take i xs)
unfolding voters_after configuration
conf_same vs xs i j le h =
    let e : i + (j - i) ≡ j = omega arith in
    ap (λ n. voters_after vs (take n xs)) (sym e) ∙ ap (voters_after vs) (take-add i (j - i) xs) ∙ ap voters (configuration-append vs vs.opening (take i xs) (take (j - i) (drop i xs)) ∙ configuration-quiet vs (configuration_from vs vs.opening (take i xs)) (take (j - i) (drop i xs)) quiet)
  where
    quiet : (k : ℕ) → nth_change vs (take (j - i) (drop i xs)) k ≡ false
    quiet k =
        ⊎_elim
        (λ (l : k < j - i).
        let f : suc (i + k) - suc i ≡ k = omega arith in
        nth-take vs (j - i) (drop i xs) k l ∙ ap (nth_change vs (drop i xs)) (sym f) ∙ change_at-drop vs i xs (suc (i + k)) (omega arith) ∙ h (suc (i + k)) (omega arith) (omega arith))
        (λ (l : j - i ≤ k). nth-past vs (take (j - i) (drop i xs)) k (omega (arith, length-take (j - i) (drop i xs))))
        (cases_lt k (j - i))

pub conf_whole : (vs : Setup) (xs : List Entry) (n : ℕ) → length xs ≤ n → voters_after vs (take n xs) ≡ voters_after vs xs
conf_whole vs xs n le = ap (voters_after vs) (take_all n xs le)

-- the last change up to an index; 0 for none
pub record LastChange (vs : Setup) (xs : List Entry) (n : ℕ) : Type 0 where
  pub at : ℕ
  pub within : at ≤ n
  pub is : (at ≡ 0) ⊎ (change_at vs xs at ≡ true)
  pub quiet : (k : ℕ) → at < k → k ≤ n → change_at vs xs k ≡ false

pub find_change : (vs : Setup) → (xs : List Entry) (n : ℕ) → LastChange vs xs n
find_change vs xs zero = record { at = 0; within = omega arith; is = inl refl; quiet = λ k a b. absurd (omega arith) }
find_change vs xs (suc n) =
    let before = find_change vs xs n in
    let low = before.within in
    ⊎_elim
    (λ (e : change_at vs xs (suc n) ≡ true). record { at = suc n; within = omega arith; is = inr e; quiet = λ k a b. absurd (omega arith) })
    (λ (e : change_at vs xs (suc n) ≡ false). record {
      at = before.at;
      within = omega arith;
      is = before.is;
      quiet = λ k a b. ⊎_elim (λ (x : k < suc n). before.quiet k a (omega arith))
          (λ (x : suc n ≤ k). let f : k ≡ suc n = omega arith in ap (change_at vs xs) f ∙ e)
          (cases_lt k (suc n));
    })
    (cases_Bool (change_at vs xs (suc n)))

-- equal, or with one voter more or less
pub data Near (vs ws : List ℕ) : Type 0 where
  equal : vs ≡ ws → Near vs ws
  more : one_more vs ws ≡ true → Near vs ws
  fewer : one_more ws vs ≡ true → Near vs ws

pub near_sym : {vs ws : List ℕ} → Near vs ws → Near ws vs
near_sym (equal e) = equal (sym e)
near_sym (more e) = fewer e
near_sym (fewer e) = more e

pub same_ids_is : (vs ws : List ℕ) → same_ids vs ws ≡ true → vs ≡ ws
same_ids_is [] [] e = refl
same_ids_is [] (w ∷ ws) e = absurd (true≢false (sym e))
same_ids_is (v ∷ vs) [] e = absurd (true≢false (sym e))
same_ids_is (v ∷ vs) (w ∷ ws) e =
    let p = and_parts _ _ e in
    let a = eqb-true v w p.0 in
    let b = same_ids_is vs ws p.1 in
    ap (λ x. x ∷ vs) a ∙ ap (λ x. w ∷ x) b

counts_more : (q : ℕ → Bool) (vs ws : List ℕ) → one_more vs ws ≡ true → (count_by q ws ≤ count_by q vs + 1) × (length ws ≡ length vs + 1)
counts_more q vs [] e = absurd (true≢false (sym e))
counts_more q [] (w ∷ ws) e =
    let nil = sym (same_ids_is [] ws e) in
    subst (λ ws. (count_by q (w ∷ ws) ≤ count_by q [] + 1) × (length (w ∷ ws) ≡ 0 + 1)) (sym nil) (omega (arith, count_up q w []), omega arith)
counts_more q (v ∷ vs) (w ∷ ws) e =
    ⊎_elim
    (λ (t : (v == w) ≡ true).
    let ih = counts_more q vs ws (sym (cond-true (v == w) (one_more vs ws) (same_ids (v ∷ vs) ws) t) ∙ e) in
    let same = eqb-true v w t in
    subst (λ x. (count_by q (x ∷ ws) ≤ count_by q (v ∷ vs) + 1) × (length (w ∷ ws) ≡ length (v ∷ vs) + 1)) same (
      ⊎_elim (λ (y : q v ≡ true). omega (arith, count_yes q v ws y, count_yes q v vs y, ih.0)) (λ (y : q v ≡ false). omega (arith, count_no q v ws y, count_no q v vs y, ih.0)) (cases_Bool (q v)),
      omega (arith, ih.1),
    ))
    (λ (f : (v == w) ≡ false).
    let same = same_ids_is (v ∷ vs) ws (sym (cond-false (v == w) (one_more vs ws) (same_ids (v ∷ vs) ws) f) ∙ e) in
    subst (λ ws. (count_by q (w ∷ ws) ≤ count_by q (v ∷ vs) + 1) × (length (w ∷ ws) ≡ length (v ∷ vs) + 1)) same (omega (arith, count_up q w (v ∷ vs)), omega arith))
    (cases_Bool (v == w))

more_meet : (vs ws : List ℕ) (p q : ℕ → Bool) → one_more vs ws ≡ true → majority vs p ≡ true → majority ws q ≡ true → (x : ℕ) × (p x ≡ true) × (q x ≡ true)
unfolding majority
more_meet vs ws p q e a b =
    ⊎_elim (λ (x : (x : ℕ) × (p x ≡ true) × (q x ≡ true)). x)
    (λ (few : count_by p vs + count_by q vs ≤ length vs).
    absurd (let m = ltb-true _ _ a in let n = ltb-true _ _ b in let c = counts_more q vs ws e in omega (arith, c.0, c.1)))
    (both_or_few p q vs)

pub near_meet : (vs ws : List ℕ) (p q : ℕ → Bool) → Near vs ws → majority vs p ≡ true → majority ws q ≡ true → (x : ℕ) × (p x ≡ true) × (q x ≡ true)
near_meet vs ws p q (equal e) a b = majorities_meet vs p q a (subst (λ zs. majority zs q ≡ true) (sym e) b)
near_meet vs ws p q (more e) a b = more_meet vs ws p q e a b
near_meet vs ws p q (fewer e) a b = let x = more_meet ws vs q p e b a in (x.0, x.2, x.1)

pub change_at-within : (vs : Setup) → (xs : List Entry) (i : ℕ) → change_at vs xs i ≡ true → i ≤ length xs
change_at-within vs xs i e =
    ⊎_elim (λ (l : length xs < i). absurd (true≢false (sym e ∙ change_at-past vs xs i l))) (λ (l : i ≤ length xs). l) (cases_lt (length xs) i)
