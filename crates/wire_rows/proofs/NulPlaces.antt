-- The first text with a NUL, in other words; and that all can be written without one.
use Rattle.std.proofs.Common.{◌≡◌, ◌+◌, ℕ, suc, Bool, true, false, cond, Option, Some, None, List, [], ◌∷◌, ◌++◌, length, position, refl, sym, ap, subst, ◌∙◌, arith}
use Rattle.std.specs.List.{AllByRecursion, position_from}
use Rattle.std.proofs.lemmas.Iterator.Adapters.{position_from-zero}
use Rattle.dq_base.specs.Names.{has_nul}
use Rattle.wire_words.specs.declared.value.Value.{Value}
use Rattle.wire_words.specs.declared.value.Value.TheVariants.{Integer, Text, Blob, Null}
use Rattle.wire_words.specs.Values.{IsWritable, AreWritable}
use Rattle.wire_words.proofs.Choices.{some_is}
use Rattle.wire_rows.specs.Cut.{Rows}
use Rattle.wire_rows.specs.Nuls.{holds_nul, place_in, nul_from, first_nul, IsFirstNul}

writable : (v : Value) → holds_nul v ≡ false → IsWritable v
writable (Integer n) clean = tt
writable (Text t) clean = clean
writable (Blob b) clean = tt
writable Null clean = tt

text_of : (v : Value) → holds_nul v ≡ true → (t : List ℕ) × (v ≡ Text t) × (has_nul t ≡ true)
text_of (Integer n) holds = absurd cc
text_of (Text t) holds = (t, refl, holds)
text_of (Blob b) holds = absurd cc
text_of Null holds = absurd cc

-- in this column of a row stands a text with a NUL, and none is before it
record InRow (values : List Value) (column : ℕ) : Type 0 where
  before : List Value
  content : List ℕ
  after : List Value
  stands : values ≡ before ++ Text content ∷ after
  column_is : column ≡ length before
  nul : has_nul content ≡ true
  none_before : AreWritable before

abbrev Found : List Value → ℕ → ℕ → Type 0
Found values from column = (k : ℕ) × (column ≡ from + k) × InRow values k

found_at : (from : ℕ) (v : Value) (vs : List Value) (c : ℕ) (b : Bool) → holds_nul v ≡ b → cond b (Some from) (position_from holds_nul (from + 1) vs) ≡ Some c
    → ((c : ℕ) → position_from holds_nul (from + 1) vs ≡ Some c → Found vs (from + 1) c) → Found (v ∷ vs) from c
found_at from v vs c true is e behind =
    let same : from ≡ c = some_is from c e in
    let t = text_of v is in
    (0, omega arith, record { before = []; content = t.0; after = vs; stands = ap (λ (x : Value). x ∷ vs) t.1; column_is = refl; nul = t.2; none_before = tt })
found_at from v vs c false is e behind =
    let f = behind c e in
    let place : c ≡ from + 1 + f.0 = f.1 in
    let r = f.2 in
    (suc f.0, omega arith, record { before = v ∷ r.before; content = r.content; after = r.after; stands = ap (λ (xs : List Value). v ∷ xs) r.stands; column_is = ap suc r.column_is; nul = r.nul; none_before = (writable v is, r.none_before) })

found : (from : ℕ) (values : List Value) (c : ℕ) → position_from holds_nul from values ≡ Some c → Found values from c
found from [] c e = absurd cc
found from (v ∷ vs) c e = found_at from v vs c (holds_nul v) refl e (found (from + 1) vs)

in_row : (values : List Value) (c : ℕ) → position holds_nul values ≡ Some c → InRow values c
in_row values c e =
    let f = found 0 values c (sym (position_from-zero holds_nul values) ∙ e) in
    let same : f.0 ≡ c = omega arith in
    subst (InRow values) same f.2

none_at : (from : ℕ) (v : Value) (vs : List Value) (b : Bool) → holds_nul v ≡ b → cond b (Some from) (position_from holds_nul (from + 1) vs) ≡ None
    → (position_from holds_nul (from + 1) vs ≡ None → AreWritable vs) → AreWritable (v ∷ vs)
none_at from v vs true is e behind = absurd cc
none_at from v vs false is e behind = (writable v is, behind e)

none_in : (from : ℕ) (values : List Value) → position_from holds_nul from values ≡ None → AreWritable values
none_in from [] e = tt
none_in from (v ∷ vs) e = none_at from v vs (holds_nul v) refl e (none_in (from + 1) vs)

row_writable : (values : List Value) → position holds_nul values ≡ None → AreWritable values
row_writable values e = none_in 0 values (sym (position_from-zero holds_nul values) ∙ e)

-- ---- rows

abbrev Located : Rows → ℕ → ℕ → ℕ → Type 0
Located rows from r c = (k : ℕ) × (r ≡ from + k) × IsFirstNul rows k c

abbrev at_place : ℕ → ℕ → Option (ℕ × ℕ)
at_place a b = Some (a, b)

pair_is : (a b c d : ℕ) → at_place a b ≡ at_place c d → (a ≡ c) × (b ≡ d)
pair_is a b c d e =
    let x : ℕ × ℕ = (a, b) in
    let y : ℕ × ℕ = (c, d) in
    let same : x ≡ y = some_is x y e in
    (ap (λ (p : ℕ × ℕ). p.0) same, ap (λ (p : ℕ × ℕ). p.1) same)

located_at : (from : ℕ) (values : List Value) (rows : Rows) (r c : ℕ) (place : Option ℕ) → position holds_nul values ≡ place → place_in from place (nul_from (from + 1) rows) ≡ Some (r, c)
    → (nul_from (from + 1) rows ≡ Some (r, c) → Located rows (from + 1) r c) → Located (values ∷ rows) from r c
located_at from values rows r c (Some column) is e behind =
    let same = pair_is from column r c e in
    let row_same : from ≡ r = same.0 in
    let here = in_row values c (is ∙ ap (λ (n : ℕ). Some n) same.1) in (
      0,
      omega arith,
      record {
        rows_before = [];
        values_before = here.before;
        nul_text = here.content;
        values_after = here.after;
        rows_after = rows;
        stands = ap (λ (vs : List Value). vs ∷ rows) here.stands;
        row_is = refl;
        column_is = here.column_is;
        nul = here.nul;
        none_before = tt;
        none_beside = here.none_before;
      },
    )
located_at from values rows r c None is e behind =
    let f = behind e in
    let place : r ≡ from + 1 + f.0 = f.1 in
    let one = f.2 in (
      suc f.0,
      omega arith,
      record {
        rows_before = values ∷ one.rows_before;
        values_before = one.values_before;
        nul_text = one.nul_text;
        values_after = one.values_after;
        rows_after = one.rows_after;
        stands = ap (λ (rs : Rows). values ∷ rs) one.stands;
        row_is = ap suc one.row_is;
        column_is = one.column_is;
        nul = one.nul;
        none_before = (row_writable values is, one.none_before);
        none_beside = one.none_beside;
      },
    )

located : (from : ℕ) (rows : Rows) (r c : ℕ) → nul_from from rows ≡ Some (r, c) → Located rows from r c
located from [] r c e = absurd cc
located from (values ∷ rows) r c e = located_at from values rows r c (position holds_nul values) refl e (located (from + 1) rows r c)

-- if a text with a NUL is found, it is the first
pub first_found : (rows : Rows) (r c : ℕ) → first_nul rows ≡ Some (r, c) → IsFirstNul rows r c
unfolding first_nul
first_found rows r c e =
    let f = located 0 rows r c e in
    let same : f.0 ≡ r = omega arith in
    subst (λ (k : ℕ). IsFirstNul rows k c) same f.2

none_from_at : (from : ℕ) (values : List Value) (rows : Rows) (place : Option ℕ) → position holds_nul values ≡ place → place_in from place (nul_from (from + 1) rows) ≡ None
    → (nul_from (from + 1) rows ≡ None → AllByRecursion AreWritable rows) → AllByRecursion AreWritable (values ∷ rows)
none_from_at from values rows (Some column) is e behind = absurd cc
none_from_at from values rows None is e behind = (row_writable values is, behind e)

none_from : (from : ℕ) (rows : Rows) → nul_from from rows ≡ None → AllByRecursion AreWritable rows
none_from from [] e = tt
none_from from (values ∷ rows) e = none_from_at from values rows (position holds_nul values) refl e (none_from (from + 1) rows)

-- if none is found, all rows can be written
pub all_writable : (rows : Rows) → first_nul rows ≡ None → AllByRecursion AreWritable rows
unfolding first_nul
all_writable rows e = none_from 0 rows e
