-- The whole batches at the front of a segment's body.
use Rattle.std.proofs.Common.{◌≡◌, ◌≢◌, inl, inr, ℕ, zero, suc, ◌+◌, ◌-◌, ◌≤◌, ◌<◌, false, List, [], ◌∷◌, ◌++◌, length, take, drop, refl, sym, ap, ◌∙◌, subst, arith, cond, append_assoc, length-append, length-drop}
use Rattle.std.specs.Prelude.{◌==◌}
use Rattle.std.proofs.lemmas.List.{take_all, drop_at, append-nil, take-append-drop, length-take-le}
use Rattle.std.proofs.lemmas.Bool.{cases_Bool, cond-false, cases_eq, eqb-true}
use Rattle.store_laws.specs.Store.{Reader, Log, Read, batches, torn}
use Rattle.store_laws.specs.Chance.{LawfulReader}

abbrev pub IsPiece : Reader → List ℕ → Log → Type 0
IsPiece rd x b = rd x ≡ record { batch = b; size = length x }

-- bytes that are exactly these batches
pub data Whole (rd : Reader) : List ℕ → List Log → Type 0 where
  done : Whole rd [] []
  more : (x rest : List ℕ) (b : Log) (bs : List Log) → IsPiece rd x b → 0 < length x → Whole rd rest bs → Whole rd (x ++ rest) (b ∷ bs)

pub empty_is : (ys : List ℕ) → length ys ≤ 0 → ys ≡ []
empty_is [] h = refl
empty_is (y ∷ ys) h = absurd (omega arith)

pub size_nil : (rd : Reader) → LawfulReader rd → (rd []).size ≡ 0
size_nil rd law = let h : (rd []).size ≤ 0 = law.size_within [] in omega arith

-- one step, if no batch reads, and if one does
pub stop_batches : (rd : Reader) (n : ℕ) (ys : List ℕ) → (rd ys).size ≡ 0 → batches rd n ys ≡ []
unfolding batches
stop_batches rd zero ys z = refl
stop_batches rd (suc n) ys z = ap (λ (k : ℕ). cond (k == 0) [] ((rd ys).batch ∷ batches rd n (drop (rd ys).size ys))) z

pub stop_torn : (rd : Reader) (n : ℕ) (ys : List ℕ) → (rd ys).size ≡ 0 → torn rd n ys ≡ ys
unfolding torn
stop_torn rd zero ys z = refl
stop_torn rd (suc n) ys z = ap (λ (k : ℕ). cond (k == 0) ys (torn rd n (drop (rd ys).size ys))) z

pub not_zero : (k : ℕ) → k ≢ 0 → (k == 0) ≡ false
not_zero k ne = elim (cases_Bool (k == 0)) [ inl t ↦ absurd (ne (eqb-true _ _ t)) | inr t ↦ t ]

go_batches : (rd : Reader) (n : ℕ) (ys : List ℕ) → (rd ys).size ≢ 0 → batches rd (suc n) ys ≡ (rd ys).batch ∷ batches rd n (drop (rd ys).size ys)
unfolding batches
go_batches rd n ys ne = cond-false _ _ _ (not_zero _ ne)

pub go_torn : (rd : Reader) (n : ℕ) (ys : List ℕ) → (rd ys).size ≢ 0 → torn rd (suc n) ys ≡ torn rd n (drop (rd ys).size ys)
unfolding torn
go_torn rd n ys ne = cond-false _ _ _ (not_zero _ ne)

module _ (rd : Reader) (law : LawfulReader rd) where
  -- enough fuel is enough
  pub fuel_batches : (n m : ℕ) (ys : List ℕ) → length ys ≤ n → length ys ≤ m → batches rd n ys ≡ batches rd m ys
  fuel_batches zero m ys h l = let e = empty_is ys h in
      ap (batches rd 0) e ∙ stop_batches rd 0 [] (size_nil rd law) ∙ sym (stop_batches rd m [] (size_nil rd law)) ∙ ap (batches rd m) (sym e)
  fuel_batches (suc n) zero ys h l = let e = empty_is ys l in
      ap (batches rd (suc n)) e ∙ stop_batches rd (suc n) [] (size_nil rd law) ∙ sym (stop_batches rd 0 [] (size_nil rd law)) ∙ ap (batches rd 0) (sym e)
  fuel_batches (suc n) (suc m) ys h l = elim (cases_eq (rd ys).size 0) [
    | inl z ↦ stop_batches rd (suc n) ys z ∙ sym (stop_batches rd (suc m) ys z)
    | inr ne ↦
        let k : length (drop (rd ys).size ys) ≡ length ys - (rd ys).size = length-drop (rd ys).size ys in
        go_batches rd n ys ne
        ∙ ap (λ (bs : List Log). (rd ys).batch ∷ bs) (fuel_batches n m (drop (rd ys).size ys) (omega arith) (omega arith))
        ∙ sym (go_batches rd m ys ne)
  ]

  -- a piece reads as its batch, whatever follows
  pub piece_reads : (x y : List ℕ) (b : Log) → IsPiece rd x b → 0 < length x → rd (x ++ y) ≡ record { batch = b; size = length x }
  piece_reads x y b p pos =
      let s : (rd x).size ≡ length x = ap (λ (r : Read). r.size) p in
      let t : take (rd x).size x ≡ x = take_all _ x (omega arith) in
      ap (λ (z : List ℕ). rd (z ++ y)) (sym t) ∙ law.front_reads x y (λ z. absurd (omega arith)) ∙ p

  -- batches after whole ones
  pub whole_batches : (xs : List ℕ) (bs : List Log) → Whole rd xs bs → (ys : List ℕ) (n : ℕ) → length (xs ++ ys) ≤ n → batches rd n (xs ++ ys) ≡ bs ++ batches rd (length ys) ys
  whole_batches _ _ done ys n h = fuel_batches n (length ys) ys h (omega arith)
  whole_batches _ _ (more x rest b bs p pos w) ys zero h = absurd (omega (arith, length-append (x ++ rest) ys, length-append x rest))
  whole_batches _ _ (more x rest b bs p pos w) ys (suc n) h =
      let e : (x ++ rest) ++ ys ≡ x ++ (rest ++ ys) = append_assoc x rest ys in
      let r = piece_reads x (rest ++ ys) b p pos in
      let s : (rd (x ++ (rest ++ ys))).size ≡ length x = ap (λ (q : Read). q.size) r in
      let k : length ((x ++ rest) ++ ys) ≡ length x + length (rest ++ ys) = ap length e ∙ length-append x (rest ++ ys) in
      ap (batches rd (suc n)) e
      ∙ go_batches rd n (x ++ (rest ++ ys)) (λ z. absurd (omega arith))
      ∙ (λ i. (r i).batch ∷ batches rd n (drop (s i) (x ++ (rest ++ ys))))
      ∙ ap (λ (l : List ℕ). b ∷ batches rd n l) (drop_at x (rest ++ ys) (length x) refl)
      ∙ ap (λ (l : List Log). b ∷ l) (whole_batches rest bs w ys n (omega arith))

  -- bytes of which nothing is torn are whole batches
  pub whole_of : (n : ℕ) (ys : List ℕ) → length ys ≤ n → torn rd n ys ≡ [] → Whole rd ys (batches rd n ys)
  whole_of zero ys h t =
      let e = empty_is ys h in
      subst (λ (l : List ℕ). Whole rd l (batches rd 0 l)) (sym e) (subst (Whole rd []) (sym (stop_batches rd 0 [] (size_nil rd law))) done)
  whole_of (suc n) ys h t = elim (cases_eq (rd ys).size 0) [
    | inl z ↦
        let e : ys ≡ [] = sym (stop_torn rd (suc n) ys z) ∙ t in
        subst (λ (l : List ℕ). Whole rd l (batches rd (suc n) l)) (sym e) (subst (Whole rd []) (sym (stop_batches rd (suc n) [] (size_nil rd law))) done)
    | inr ne ↦
        let s = (rd ys).size in
        let within : s ≤ length ys = law.size_within ys in
        let x = take s ys in
        let len : length x ≡ s = length-take-le s ys within in
        let reads : rd x ≡ rd ys = ap rd (sym (append-nil x)) ∙ law.front_reads ys [] ne in
        let piece : IsPiece rd x (rd ys).batch = reads ∙ (λ i. record { batch = (rd ys).batch; size = sym len i }) in
        let k : length (drop s ys) ≡ length ys - s = length-drop s ys in
        let rest = whole_of n (drop s ys) (omega arith) (sym (go_torn rd n ys ne) ∙ t) in
        let all : Whole rd (x ++ drop s ys) ((rd ys).batch ∷ batches rd n (drop s ys)) = more x (drop s ys) (rd ys).batch _ piece (omega arith) rest in
        subst (Whole rd ys) (sym (go_batches rd n ys ne)) (subst (λ (l : List ℕ). Whole rd l ((rd ys).batch ∷ batches rd n (drop s ys))) (take-append-drop s ys) all)
  ]
