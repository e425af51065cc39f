-- What a load reaches in a segment that ends in a batch that was written whole.
use Rattle.std.proofs.Common.{◌≡◌, ◌≢◌, ◌⊎◌, inl, inr, ℕ, ◌+◌, ◌-◌, ◌≤◌, ◌<◌, true, List, [], ◌∷◌, ◌++◌, length, take, drop, refl, sym}
use Rattle.std.proofs.Common.{ap, ◌∙◌, subst, arith, append_assoc, length-append, length-drop}
use Rattle.std.proofs.lemmas.Bool.{and_parts}
use Rattle.std.proofs.lemmas.List.{take_all, take-append-le, drop_at, drop-append-le, length-take-le}
use Rattle.disk_model.specs.Disk.{Change, Wrote, Held}
use Rattle.disk_model.specs.Genuine.{WasWritten, Genuine}
use Rattle.store_laws.specs.Store.{Format, Reader, Log, Read, batches, torn, is_empty, reader, is_whole}
use Rattle.store_laws.specs.Chance.{Lawful, LawfulReader}
use Rattle.store_laws.proofs.Fronts.{Whole, done, more, piece_reads, whole_of}
use Rattle.store_laws.proofs.Grown.{long, same_version}
use Rattle.store_format.proofs.BatchesLawful.{is_lawful}
use Rattle.store_chance.specs.Chance.{WritesBatch, WholeWritesAreFair}

-- ---- two fronts of whole batches, in the same bytes

module _ (rd : Reader) (law : LawfulReader rd) where
  size_at : (x y : List ℕ) (b : Log) → rd x ≡ record { batch = b; size = length x } → 0 < length x → (rd (x ++ y)).size ≡ length x
  size_at x y b p pos = ap (λ (r : Read). r.size) (piece_reads rd law x y b p pos)

  -- A batch that reads after one front is in the other front, or the fronts are of equal length.
  reached : (xs : List ℕ) (bs : List Log) → Whole rd xs bs → (ys : List ℕ) (cs : List Log) → Whole rd ys cs → (b rest : List ℕ) → (rd b).size ≡ length b
      → xs ++ b ≡ ys ++ rest → (rd rest).size ≢ 0 → (length ys + (rd rest).size ≤ length xs) ⊎ (length ys ≡ length xs)
  reached _ _ done _ _ done b rest batch e some = inr refl
  reached _ _ done _ _ (more y ys c cs q pos w) b rest batch e some =
      let f : b ≡ y ++ (ys ++ rest) = e ∙ append_assoc y ys rest in
      let s : length b ≡ length y = sym batch ∙ ap (λ (l : List ℕ). (rd l).size) f ∙ size_at y (ys ++ rest) c q pos in
      let n : length b ≡ length y + length (ys ++ rest) = ap length f ∙ length-append y (ys ++ rest) in
      let m : length (ys ++ rest) ≡ length ys + length rest = length-append ys rest in
      let within : (rd rest).size ≤ length rest = law.size_within rest in
      absurd (some (omega arith))
  reached _ _ (more x xs a bs p pos v) _ _ done b rest batch e some =
      let f : rest ≡ x ++ (xs ++ b) = sym e ∙ append_assoc x xs b in
      let s : (rd rest).size ≡ length x = ap (λ (l : List ℕ). (rd l).size) f ∙ size_at x (xs ++ b) a p pos in
      let n : length (x ++ xs) ≡ length x + length xs = length-append x xs in
      inl (omega arith)
  reached _ _ (more x xs a bs p posx v) _ _ (more y ys c cs q posy w) b rest batch e some =
      let f : x ++ (xs ++ b) ≡ y ++ (ys ++ rest) = sym (append_assoc x xs b) ∙ e ∙ append_assoc y ys rest in
      let s : length x ≡ length y = sym (size_at x (xs ++ b) a p posx) ∙ ap (λ (l : List ℕ). (rd l).size) f ∙ size_at y (ys ++ rest) c q posy in
      let g : xs ++ b ≡ ys ++ rest =
      sym (drop_at x (xs ++ b) (length x) refl) ∙ ap (drop (length x)) f ∙ drop_at y (ys ++ rest) (length x) (sym s) in
      let n : length (x ++ xs) ≡ length x + length xs = length-append x xs in
      let m : length (y ++ ys) ≡ length y + length ys = length-append y ys in
      elim (reached xs bs v ys cs w b rest batch g some) [
        | inl z ↦ inl (omega arith)
        | inr z ↦ inr (omega arith)
      ]

-- ---- what is found is what was written

module _ (h : Held) (a b front rest : List ℕ) (n : ℕ) (bytes : h.bytes ≡ a) (e : a ++ b ≡ front ++ rest) where
  from_there : (p : ℕ) → p ≡ length front → p ≤ length a → drop p a ++ b ≡ rest
  from_there p is le = sym (drop-append-le p a b le) ∙ ap (drop p) e ∙ drop_at front rest p (sym is)

  -- it is in the synced bytes
  in_front : n ≤ length rest → length front + n ≤ length a → Genuine h (length front) (take n rest)
  in_front short le =
      let p = length front in
      let size : length (take n rest) ≡ n = length-take-le n rest short in
      let left : length (drop p a) ≡ length a - p = length-drop p a in
      record {
        why = inl (ap (λ (k : ℕ). take k (drop p h.bytes)) size ∙ ap (λ (l : List ℕ). take n (drop p l)) bytes
            ∙ sym (take-append-le n (drop p a) b (omega arith)) ∙ ap (take n) (from_there p refl (omega arith)));
      }

  -- it is the batch that was written
  at_end : h.since ≡ Wrote (length a) b ∷ [] → length front ≡ length a → n ≡ length b → Genuine h (length front) (take n rest)
  at_end since same size =
      let p = length front in
      let there : b ≡ rest = sym (drop_at a b p (sym same)) ∙ ap (drop p) e ∙ drop_at front rest p refl in
      let all : take n rest ≡ b = ap (take n) (sym there) ∙ take_all n b (omega arith) in
      record {
        why = inr (subst (λ (l : List Change). WasWritten l p (take n rest)) (sym since)
            (inl (
              omega arith,
              subst (λ (x : List ℕ). take (length x) (drop (p - length a) b) ≡ x) (sym all)
                  (ap (λ (k : ℕ). take (length b) (drop k b)) (zero_at p same) ∙ take_all (length b) b (omega arith)),
            )));
      }
    where
      zero_at : (p : ℕ) → p ≡ length a → p - length a ≡ 0
      zero_at p same = omega arith

-- ---- the segment

is_nil : (xs : List ℕ) → is_empty xs ≡ true → xs ≡ []
is_nil [] e = refl
is_nil (x ∷ xs) e = absurd cc

nothing_torn : (f : Format) (H : List ℕ) → is_whole f H ≡ true → torn (reader f H) (length H) (drop 8 H) ≡ []
unfolding is_whole
nothing_torn f H whole = is_nil _ (and_parts _ _ whole).1

body : (f : Format) (law : Lawful f) (H : List ℕ) → is_whole f H ≡ true → Whole (reader f H) (drop 8 H) (batches (reader f H) (length H) (drop 8 H))
body f law H whole =
    whole_of (reader f H) (law.batches (f.version H)) (length H) (drop 8 H) (omega (arith, length-drop 8 H)) (nothing_torn f H whole)

fair_at : (f : Format) (law : Lawful f) (h : Held) (a b : List ℕ) → WritesBatch f h a b → (front rest : List ℕ) → a ++ b ≡ front ++ rest
    → is_whole f front ≡ true → (reader f (a ++ b) rest).size ≢ 0 → Genuine h (length front) (take (reader f (a ++ b) rest).size rest)
fair_at f law h a b w front rest e whole some =
    let va : f.version (a ++ b) ≡ f.version a = same_version f law a w.whole b in
    let vf : f.version front ≡ f.version a = sym (same_version f law front whole rest) ∙ ap f.version (sym e) ∙ va in
    let law_a : LawfulReader (reader f a) = law.batches (f.version a) in
    let some_a : (reader f a rest).size ≢ 0 = subst (λ (v : ℕ). (f.batch v rest).size ≢ 0) va some in
    let within : (reader f a rest).size ≤ length rest = law_a.size_within rest in
    let la = long f law a w.whole in
    let lf = long f law front whole in
    let na : length (drop 8 a) ≡ length a - 8 = length-drop 8 a in
    let nf : length (drop 8 front) ≡ length front - 8 = length-drop 8 front in
    let d : drop 8 a ++ b ≡ drop 8 front ++ rest = sym (drop-append-le 8 a b la) ∙ ap (drop 8) e ∙ drop-append-le 8 front rest lf in
    let wf = subst (λ (v : ℕ). Whole (f.batch v) (drop 8 front) (batches (f.batch v) (length front) (drop 8 front))) vf (body f law front whole) in
    subst (λ (v : ℕ). Genuine h (length front) (take (f.batch v rest).size rest)) (sym va)
    (elim (reached (reader f a) law_a (drop 8 a) _ (body f law a w.whole) (drop 8 front) _ wf b rest w.batch d some_a) [
      | inl z ↦ in_front h a b front rest _ w.bytes e within (omega arith)
      | inr z ↦
          let same : length front ≡ length a = omega arith in
          let there : b ≡ rest = sym (drop_at a b (length front) (sym same)) ∙ ap (drop (length front)) e ∙ drop_at front rest (length front) refl in
          at_end h a b front rest _ w.bytes e w.since same (ap (λ (l : List ℕ). (reader f a l).size) (sym there) ∙ w.batch)
    ])

pub whole_writes_are_fair : WholeWritesAreFair
whole_writes_are_fair h a b w = record { each = fair_at _ is_lawful h a b w }
