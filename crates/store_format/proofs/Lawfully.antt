-- The files of a node are read lawfully.
use Rattle.std.proofs.Common.{◌≡◌, ◌≢◌, inl, inr, ℕ, suc, ◌+◌, ◌-◌, ◌%◌, ◌≤◌, Bool, true, false, cond, List, [], ◌∷◌, ◌++◌, length, take, drop, refl, sym, ap, ◌∙◌, arith, length-append, length-drop}
use Rattle.std.specs.Prelude.{◌&&◌, ◌==◌, nat_le, nat_lt}
use Rattle.std.specs.Str.{bytes_eq}
use Rattle.std.proofs.lemmas.Bool.{cases_Bool, cond-true, cond-false, and_parts, eqb-true, leb-true, le-leb}
use Rattle.wire_words.specs.Items.{gap}
use Rattle.wire_words.specs.Reading.{are_zeros}
use Rattle.store_laws.specs.Store.{Meta, Snap, no_meta, no_snap}
use Rattle.store_format.specs.Sums.{sum_bytes}
use Rattle.store_format.specs.Words.{word_from, is_known, format_in}
use Rattle.store_format.specs.Metadata.{fits_side, is_block, meta_in}
use Rattle.store_format.specs.Snapshots.{size_in, summed, fills, head_fits, is_snapshot, snap_of}
use Rattle.store_format.specs.Files.{ReadsLawfully}
use Rattle.store_format.proofs.Places.{word_front}

-- ---- the first word

opens_long : (x : List ℕ) → nat_lt 0 (format_in x) ≡ true → 8 ≤ length x
unfolding format_in
opens_long x o = elim (cases_Bool (nat_le 8 (length x))) [
  | inl t ↦ leb-true _ _ t
  | inr n ↦
      let z : format_in x ≡ 0 = ap (λ (b : Bool). cond (b && is_known (word_from 0 x)) (word_from 0 x) 0) n in
      let y : false ≡ true = ap (λ (k : ℕ). nat_lt 0 k) (sym z) ∙ o in
      absurd cc
]

version_front : (x y : List ℕ) → 8 ≤ length x → format_in (x ++ y) ≡ format_in x
unfolding format_in
version_front x y h =
    let long : nat_le 8 (length (x ++ y)) ≡ true = le-leb _ _ (omega (arith, length-append x y)) in
    let short : nat_le 8 (length x) ≡ true = le-leb _ _ h in
    let w = word_front 0 x y (omega arith) in
    (λ i. cond (long i && is_known (w i)) (w i) 0) ∙ (λ i. cond (sym short i && is_known (word_from 0 x)) (word_from 0 x) 0)

-- ---- metadata

abbrev block_of : List ℕ → Meta
block_of x = record { stamp = suc (word_from 8 x); term = word_from 16 x; vote = word_from 24 x }

meta_yes : (side : Bool) (x : List ℕ) → is_block side x ≡ true → meta_in side x ≡ block_of x
unfolding meta_in
meta_yes side x t = cond-true _ _ _ t

meta_no : (side : Bool) (x : List ℕ) → is_block side x ≡ false → meta_in side x ≡ no_meta
unfolding meta_in
meta_no side x n = cond-false _ _ _ n

block_parts : (side : Bool) (x : List ℕ) → is_block side x ≡ true → (length x ≡ 40) × (fits_side side (word_from 8 x) ≡ true)
unfolding is_block
block_parts side x t =
    let a = (and_parts _ (bytes_eq (drop 32 x) (sum_bytes (word_from 0 x) (take 32 x))) t).0 in
    let b = and_parts ((length x == 40) && is_known (word_from 0 x)) (fits_side side (word_from 8 x)) a in
    let c = and_parts (length x == 40) (is_known (word_from 0 x)) b.0 in
    (eqb-true _ _ c.0, b.1)

meta_none : (side : Bool) (x : List ℕ) → (meta_in side x).stamp ≡ 0 → meta_in side x ≡ no_meta
meta_none side x z = elim (cases_Bool (is_block side x)) [
  | inl t ↦ let e : suc (word_from 8 x) ≡ 0 = ap (λ (m : Meta). m.stamp) (sym (meta_yes side x t)) ∙ z in absurd (omega arith)
  | inr n ↦ meta_no side x n
]

not_nil : (side : Bool) → is_block side [] ≡ false
unfolding is_block
not_nil side = refl

meta_nil : (side : Bool) → (meta_in side []).stamp ≡ 0
meta_nil side = ap (λ (m : Meta). m.stamp) (meta_no side [] (not_nil side))

was_block : (side : Bool) (x : List ℕ) → (meta_in side x).stamp ≢ 0 → is_block side x ≡ true
was_block side x ne = elim (cases_Bool (is_block side x)) [
  | inl t ↦ t
  | inr n ↦ absurd (ne (ap (λ (m : Meta). m.stamp) (meta_no side x n)))
]

meta_long : (side : Bool) (x : List ℕ) → (meta_in side x).stamp ≢ 0 → length x ≡ 40
meta_long side x ne = (block_parts side x (was_block side x ne)).0

even : (x : List ℕ) → (meta_in true x).stamp % 2 ≡ 0
even x = elim (cases_Bool (is_block true x)) [
  | inl t ↦
      let p : word_from 8 x % 2 ≡ 1 = eqb-true _ _ (block_parts true x t).1 in
      ap (λ (m : Meta). m.stamp % 2) (meta_yes true x t) ∙ next (word_from 8 x) p
  | inr n ↦ ap (λ (m : Meta). m.stamp % 2) (meta_no true x n)
]
  where
    next : (v : ℕ) → v % 2 ≡ 1 → suc v % 2 ≡ 0
    next v p = omega arith

odd : (x : List ℕ) → (meta_in false x).stamp ≢ 0 → (meta_in false x).stamp % 2 ≡ 1
odd x ne =
    let t = was_block false x ne in
    let p : word_from 8 x % 2 ≡ 0 = eqb-true _ _ (block_parts false x t).1 in
    ap (λ (m : Meta). m.stamp % 2) (meta_yes false x t) ∙ next (word_from 8 x) p
  where
    next : (v : ℕ) → v % 2 ≡ 0 → suc v % 2 ≡ 1
    next v p = omega arith

-- ---- snapshots

abbrev pub snapshot_in : ℕ → List ℕ → Snap
snapshot_in j x = record { index = j; term = word_from 16 x; bytes = take (size_in x) (drop 40 x) }

pub snap_yes : (j : ℕ) (x : List ℕ) → is_snapshot j x ≡ true → snap_of j x ≡ snapshot_in j x
unfolding snap_of
snap_yes j x t = cond-true _ _ _ t

snap_no : (j : ℕ) (x : List ℕ) → is_snapshot j x ≡ false → snap_of j x ≡ no_snap
unfolding snap_of
snap_no j x n = cond-false _ _ _ n

pub whole_parts : (j : ℕ) (x : List ℕ) → is_snapshot j x ≡ true → (40 ≤ length x) × (length (drop 40 x) ≡ size_in x + gap (size_in x)) × (nat_lt 0 j ≡ true)
unfolding is_snapshot head_fits
whole_parts j x t =
    let a = (and_parts (head_fits j x && fills (size_in x) (drop 40 x)) (bytes_eq (take 8 (drop 32 x)) (sum_bytes (word_from 0 x) (summed x))) t).0 in
    let b = and_parts (head_fits j x) (fills (size_in x) (drop 40 x)) a in
    let c = and_parts (length (drop 40 x) == size_in x + gap (size_in x)) (are_zeros (size_in x) (gap (size_in x)) (drop 40 x)) b.1 in
    let d = (and_parts (nat_le 40 (length x) && nat_lt 0 j && is_known (word_from 0 x)) (word_from 8 x == j) b.0).0 in
    let e = (and_parts (nat_le 40 (length x) && nat_lt 0 j) (is_known (word_from 0 x)) d).0 in
    let f = and_parts (nat_le 40 (length x)) (nat_lt 0 j) e in
    (leb-true _ _ f.0, eqb-true _ _ c.0, f.1)

pub was_snapshot : (j : ℕ) (x : List ℕ) → (snap_of j x).index ≢ 0 → is_snapshot j x ≡ true
was_snapshot j x ne = elim (cases_Bool (is_snapshot j x)) [
  | inl t ↦ t
  | inr n ↦ absurd (ne (ap (λ (s : Snap). s.index) (snap_no j x n)))
]

snap_none : (j : ℕ) (x : List ℕ) → (snap_of j x).index ≡ 0 → snap_of j x ≡ no_snap
snap_none j x z = elim (cases_Bool (is_snapshot j x)) [
  | inl t ↦
      let e : j ≡ 0 = ap (λ (s : Snap). s.index) (sym (snap_yes j x t)) ∙ z in
      let y : false ≡ true = ap (λ (k : ℕ). nat_lt 0 k) (sym e) ∙ (whole_parts j x t).2 in
      absurd cc
  | inr n ↦ snap_no j x n
]

nothing_whole : (j : ℕ) → is_snapshot j [] ≡ false
unfolding is_snapshot head_fits
nothing_whole j = refl

snap_nil : (j : ℕ) → (snap_of j []).index ≡ 0
snap_nil j = ap (λ (s : Snap). s.index) (snap_no j [] (nothing_whole j))

snap_number : (j : ℕ) (x : List ℕ) → (snap_of j x).index ≢ 0 → (snap_of j x).index ≡ j
snap_number j x ne = ap (λ (s : Snap). s.index) (snap_yes j x (was_snapshot j x ne))

none_behind : (y : List ℕ) → length y ≤ 0 → y ≡ []
none_behind [] h = refl
none_behind (b ∷ y) h = absurd (omega arith)

snap_exact : (j : ℕ) (x y : List ℕ) → (snap_of j x).index ≢ 0 → (snap_of j (x ++ y)).index ≢ 0 → y ≡ []
snap_exact j x y ne more =
    let p = whole_parts j x (was_snapshot j x ne) in
    let q = whole_parts j (x ++ y) (was_snapshot j (x ++ y) more) in
    let long : 40 ≤ length x = p.0 in
    let size : size_in (x ++ y) ≡ size_in x = word_front 24 x y (omega arith) in
    let one : length x - 40 ≡ size_in x + gap (size_in x) = sym (length-drop 40 x) ∙ p.1 in
    let two : length (x ++ y) - 40 ≡ size_in x + gap (size_in x) = sym (length-drop 40 (x ++ y)) ∙ q.1 ∙ ap (λ (n : ℕ). n + gap n) size in
    let same : length (x ++ y) - 40 ≡ length x - 40 = two ∙ sym one in
    none_behind y (omega (arith, length-append x y))

pub reads_lawfully : ReadsLawfully
reads_lawfully batch lawful = record {
  batches = lawful;
  opens_long = opens_long;
  version_front = version_front;
  snap_none = snap_none;
  snap_nil = snap_nil;
  snap_number = snap_number;
  snap_exact = snap_exact;
  meta_none = meta_none;
  meta_nil = meta_nil;
  meta_long = meta_long;
  even = even;
  odd = odd;
}
