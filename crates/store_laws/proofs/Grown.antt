-- A whole segment, and what may follow it.
use Rattle.std.proofs.Common.{◌≡◌, ◌≢◌, ◌⊎◌, inl, inr, ℕ, zero, suc, ◌≤◌, ◌<◌, true, List, [], ◌∷◌, ◌++◌, length, take, drop, refl, sym, ap, ◌∙◌, subst, arith, append_assoc, length-append, length-drop}
use Rattle.std.specs.Prelude.{◌&&◌, nat_lt}
use Rattle.std.proofs.lemmas.List.{take_all, drop_all, append-nil, take-append-drop, drop-append-le}
use Rattle.std.proofs.lemmas.Bool.{cond-true, cases_eq, and_parts}
use Rattle.store_laws.specs.Store.{Format, Reader, Log, Read, batches, torn, is_empty, batches_in, is_whole, opens, reader}
use Rattle.store_laws.specs.Chance.{Lawful, LawfulReader}
use Rattle.store_laws.proofs.Fronts.{IsPiece, Whole, done, more, stop_batches, stop_torn, go_torn, piece_reads, whole_batches, whole_of, size_nil}

is_nil : (xs : List ℕ) → is_empty xs ≡ true → xs ≡ []
is_nil [] e = refl
is_nil (x ∷ xs) e = absurd cc

module _ (rd : Reader) (law : LawfulReader rd) where
  whole_append : (xs : List ℕ) (bs : List Log) → Whole rd xs bs → (ys : List ℕ) (cs : List Log) → Whole rd ys cs → Whole rd (xs ++ ys) (bs ++ cs)
  whole_append _ _ done ys cs w = w
  whole_append _ _ (more x rest b bs p pos v) ys cs w =
      subst (λ (l : List ℕ). Whole rd l (b ∷ bs ++ cs)) (sym (append_assoc x rest ys)) (more x (rest ++ ys) b (bs ++ cs) p pos (whole_append rest bs v ys cs w))

  pub torn_whole : (xs : List ℕ) (bs : List Log) → Whole rd xs bs → (n : ℕ) → length xs ≤ n → torn rd n xs ≡ []
  torn_whole _ _ done n h = stop_torn rd n [] (size_nil rd law)
  torn_whole _ _ (more x rest b bs p pos w) zero h = absurd (omega (arith, length-append x rest))
  torn_whole _ _ (more x rest b bs p pos w) (suc n) h =
      let s : (rd (x ++ rest)).size ≡ length x = ap (λ (q : Read). q.size) (piece_reads rd law x rest b p pos) in
      go_torn rd n (x ++ rest) (λ z. absurd (omega arith))
      ∙ ap (λ (k : ℕ). torn rd n (drop k (x ++ rest))) s
      ∙ ap (torn rd n) (drop_seam x rest) ∙ torn_whole rest bs w n (omega (arith, length-append x rest))
    where
      drop_seam : (x rest : List ℕ) → drop (length x) (x ++ rest) ≡ rest
      drop_seam x rest = drop-append-le (length x) x rest (omega arith) ∙ ap (λ (l : List ℕ). l ++ rest) (drop_all (length x) x (omega arith))

  single : (enc : List ℕ) (b : Log) → IsPiece rd enc b → 0 < length enc → Whole rd enc (b ∷ [])
  single enc b p pos = subst (λ (l : List ℕ). Whole rd l (b ∷ [])) (append-nil enc) (more enc [] b [] p pos done)

  pub one_batch : (enc : List ℕ) (b : Log) → IsPiece rd enc b → 0 < length enc → batches rd (length enc) enc ≡ b ∷ []
  one_batch enc b p pos =
      let w = whole_batches rd law enc (b ∷ []) (single enc b p pos) [] (length enc) (omega (arith, length-append enc [])) in
      ap (batches rd (length enc)) (sym (append-nil enc)) ∙ w ∙ ap (λ (l : List Log). b ∷ l) (stop_batches rd 0 [] (size_nil rd law))

  -- a torn batch doesn't read, or is there whole
  pub torn_or_whole : (enc : List ℕ) (b : Log) → IsPiece rd enc b → 0 < length enc → (r : List ℕ) → length r ≤ length enc
      → ((rd r).size ≢ 0 → take (rd r).size enc ≡ take (rd r).size r) → (batches rd (length r) r ≡ []) ⊎ (r ≡ enc)
  torn_or_whole enc b p pos r short fair = elim (cases_eq (rd r).size 0) [
    | inl z ↦ inl (stop_batches rd (length r) r z)
    | inr ne ↦
        let s = (rd r).size in
        let within : s ≤ length r = law.size_within r in
        let fits : s ≤ length enc = omega arith in
        let e : enc ≡ take s r ++ drop s enc = sym (take-append-drop s enc) ∙ ap (λ (l : List ℕ). l ++ drop s enc) (fair ne) in
        let q : rd enc ≡ rd r = ap rd e ∙ law.front_reads r (drop s enc) ne in
        let size : length enc ≡ s = ap (λ (x : Read). x.size) (sym p ∙ q) in
        let t : take s r ≡ r = take_all s r (omega arith) in
        let u : take s enc ≡ enc = take_all s enc (omega arith) in
        inr (sym t ∙ sym (fair ne) ∙ u)
  ]

module _ (f : Format) (law : Lawful f) (H : List ℕ) (whole : is_whole f H ≡ true) where
  opened : opens f H ≡ true
  unfolding is_whole
  opened = (and_parts _ _ whole).0

  nothing_torn : torn (reader f H) (length H) (drop 8 H) ≡ []
  unfolding is_whole
  nothing_torn = is_nil _ (and_parts _ _ whole).1

  pub long : 8 ≤ length H
  long = law.opens_long H opened

  body : Whole (reader f H) (drop 8 H) (batches (reader f H) (length H) (drop 8 H))
  body = whole_of (reader f H) (law.batches (f.version H)) (length H) (drop 8 H) (omega (arith, length-drop 8 H)) nothing_torn

  in_H : batches_in f H ≡ batches (reader f H) (length H) (drop 8 H)
  unfolding batches_in
  in_H = cond-true _ _ _ opened

  pub same_version : (r : List ℕ) → f.version (H ++ r) ≡ f.version H
  same_version r = law.version_front H r long

  -- what follows it is read as it is alone
  pub grown : (r : List ℕ) → batches_in f (H ++ r) ≡ batches_in f H ++ batches (reader f H) (length r) r
  unfolding batches_in
  grown r =
      let o : opens f (H ++ r) ≡ true = ap (λ (v : ℕ). nat_lt 0 v) (same_version r) ∙ opened in
      let e : drop 8 (H ++ r) ≡ drop 8 H ++ r = drop-append-le 8 H r long in
      cond-true _ _ _ o
      ∙ (λ i. batches (f.batch (same_version r i)) (length (H ++ r)) (e i))
      ∙ whole_batches (reader f H) (law.batches (f.version H)) (drop 8 H) _ body r (length (H ++ r)) (omega (arith, length-append (drop 8 H) r, length-append H r, length-drop 8 H))
      ∙ ap (λ (l : List Log). l ++ batches (reader f H) (length r) r) (sym in_H)

  pub grown_whole : (enc : List ℕ) (b : Log) → IsPiece (reader f H) enc b → 0 < length enc → is_whole f (H ++ enc) ≡ true
  unfolding is_whole
  grown_whole enc b p pos =
      let o : opens f (H ++ enc) ≡ true = ap (λ (v : ℕ). nat_lt 0 v) (same_version enc) ∙ opened in
      let e : drop 8 (H ++ enc) ≡ drop 8 H ++ enc = drop-append-le 8 H enc long in
      let rl = law.batches (f.version H) in
      let w = whole_append (reader f H) rl (drop 8 H) _ body enc _ (single (reader f H) rl enc b p pos) in
      let t : torn (reader f (H ++ enc)) (length (H ++ enc)) (drop 8 (H ++ enc)) ≡ [] = (λ i. torn (f.batch (same_version enc i)) (length (H ++ enc)) (e i)) ∙ torn_whole (reader f H) rl _ _ w (length (H ++ enc)) (omega (arith, length-append (drop 8 H) enc, length-append H enc, length-drop 8 H)) in
      (λ i. o i && is_empty (t i))
