-- An end word is no row.
use Rattle.std.proofs.Common.{◌≡◌, ◌⊎◌, inl, inr, ◌+◌, ◌*◌, ◌/◌, ◌%◌, ◌<◌, ◌≤◌, ℕ, zero, suc, Bool, true, false, cond, ◌||◌, Option, Some, None, Result, Ok, Err, MatchOption, List, [], ◌∷◌, ◌++◌, length, take, drop, replicate, eq-eqb, append_assoc, refl, sym, ap, subst, ◌∙◌, arith}
use Rattle.std.proofs.lemmas.Bool.{ne_eqb}
use Rattle.std.proofs.Math.Dec.{ltb, eqb}
use Rattle.std.specs.List.{list_all}
use Rattle.byteorder.specs.Endian.{little_number, little_from}
use Rattle.wire_words.specs.declared.fault.WordFault.{WordFault}
use Rattle.wire_words.specs.declared.fault.WordFault.TheVariants.{Short, Pad}
use Rattle.wire_words.specs.declared.fault.WordFault.TheVariants as word_faults
use Rattle.wire_words.specs.declared.value.Value.{Value}
use Rattle.wire_words.specs.declared.value.ValueType.{ValueType}
use Rattle.wire_words.specs.declared.value.Dialect.TheVariants as dialects
use Rattle.wire_words.specs.Items.{is_zero}
use Rattle.wire_words.specs.Reading.{◌>>=◌, Unread, past, raw_at, word_at, Fails}
use Rattle.wire_words.specs.ReadingValues.{type_with, known, all_types, no_float, types_at, values_at, split_halves, row_head_size, row_types, row_head_at, row_at}
use Rattle.wire_words.proofs.ReadBack.{bind_ok}
use Rattle.wire_words.proofs.Padding.{raw_took}
use Rattle.wire_rows.specs.declared.part.More.{More}
use Rattle.wire_rows.specs.declared.fault.RowReadFault.{RowReadFault}
use Rattle.wire_rows.specs.declared.fault.RowReadFault.TheVariants.{NoEnd}
use Rattle.wire_rows.specs.declared.reading.Next.{Next}
use Rattle.wire_rows.specs.declared.reading.Next.TheVariants.{Row, End}
use Rattle.wire_rows.specs.Reading.{of_word, in_part, end_of, end_with, end_at, end_here, next_with, next_at, FailsReading, Finds}

is_known : (at n : ℕ) (o : Option ValueType) (t : ValueType) → known at n o ≡ Ok t → (u : ValueType) × (o ≡ Some u)
is_known at n None t e = absurd cc
is_known at n (Some u) t e = (u, refl)

-- the first of the codes represents a type
first_known : (at c : ℕ) (bytes : List ℕ) (count : ℕ) (ts : List ValueType) → types_at dialects.Exact at (take (suc count) (split_halves (c ∷ bytes))) ≡ Ok ts → (u : ValueType) × (type_with dialects.Exact (c % 16) ≡ Some u)
unfolding types_at
first_known at c bytes count ts e =
    let all = bind_ok (all_types dialects.Exact at (take (suc count) (split_halves (c ∷ bytes)))) (no_float at) ts e in
    let one = bind_ok (known at (c % 16) (type_with dialects.Exact (c % 16))) (λ first. all_types dialects.Exact at (take count (c / 16 ∷ split_halves bytes)) >>= λ others. Ok (first ∷ others)) all.0 all.1 in
    is_known at (c % 16) (type_with dialects.Exact (c % 16)) one.0 one.1

-- the codes 15 and 14 represent none
not_fifteen : (n : ℕ) (u : ValueType) → type_with dialects.Exact n ≡ Some u → n ≡ 15 → ⊥
not_fifteen n u typed is = let none : None ≡ Some u = sym (ap (type_with dialects.Exact) is) ∙ typed in cc

not_fourteen : (n : ℕ) (u : ValueType) → type_with dialects.Exact n ≡ Some u → n ≡ 14 → ⊥
not_fourteen n u typed is = let none : None ≡ Some u = sym (ap (type_with dialects.Exact) is) ∙ typed in cc

-- a number that is no end word
no_end : (n : ℕ) → (n ≡ 18446744073709551615 → ⊥) → (n ≡ 17216961135462248174 → ⊥) → end_of n ≡ None
no_end n last follows = rw (ne_eqb n 18446744073709551615 last, ne_eqb n 17216961135462248174 follows) refl

no_end_in : (b : Bool) (at n : ℕ) (rest : Unread) → end_of n ≡ None → end_with (cond b (Err (Short at)) (Ok (n, rest))) ≡ None
no_end_in true at n rest none = refl
no_end_in false at n rest none = none

-- bytes whose first is c, of which the lower half is the code of a type, are no end word
typed_not_end : (left : Unread) (c : ℕ) (bytes : List ℕ) (u : ValueType) → left.bytes ≡ c ∷ bytes → type_with dialects.Exact (c % 16) ≡ Some u → end_at left ≡ None
unfolding end_at word_at
typed_not_end left c bytes u front typed =
    let n = little_number 8 left.bytes in
    let sum : little_number 8 left.bytes ≡ c + 256 * little_from 1 7 (c ∷ bytes) = ap (little_number 8) front in
    let low : little_number 8 left.bytes % 16 ≡ c % 16 = omega arith in
    let last : n ≡ 18446744073709551615 → ⊥ = λ same. not_fifteen (c % 16) u typed (sym low ∙ ap (λ (m : ℕ). m % 16) same) in
    let follows : n ≡ 17216961135462248174 → ⊥ = λ same. not_fourteen (c % 16) u typed (sym low ∙ ap (λ (m : ℕ). m % 16) same) in
    no_end_in (ltb (length left.bytes) 8) left.at n (past 8 left) (no_end n last follows)

head_not_end : (count : ℕ) (left : Unread) (head rest : List ℕ) (ts : List ValueType) → 0 < count → length head ≡ row_head_size count → left.bytes ≡ head ++ rest
    → types_at dialects.Exact left.at (take count (split_halves head)) ≡ Ok ts → end_at left ≡ None
head_not_end zero left head rest ts some size parts typed = absurd (omega arith)
head_not_end (suc count) left [] rest ts some size parts typed = let long : 1 ≤ row_head_size (suc count) = omega arith in absurd (omega arith)
head_not_end (suc count) left (c ∷ bytes) rest ts some size parts typed =
    let first = first_known left.at c bytes count ts typed in
    typed_not_end left c (bytes ++ rest) first.0 parts first.1

-- where a row stands, no end word does
pub row_not_end : (count : ℕ) (left new : Unread) (vs : List Value) → 0 < count → row_at count left ≡ Ok (vs, new) → end_at left ≡ None
unfolding row_at row_head_at
row_not_end count left new vs some e =
    let size = row_head_size count in
    let a = bind_ok (row_head_at count left) (λ ts. values_at dialects.Exact ts.0 ts.1) (vs, new) e in
    let b = bind_ok (raw_at size left) (λ head. row_types left.at count (split_halves head.0) >>= λ ts. Ok (ts, head.1)) a.0 a.1 in
    let head = b.0.0 in
    let mid = b.0.1 in
    let hs = split_halves head in
    let c = bind_ok (row_types left.at count hs) (λ ts. Ok (ts, mid)) a.0 b.2 in
    let d = bind_ok (types_at dialects.Exact left.at (take count hs)) (λ x. cond (list_all is_zero (drop count hs)) (Ok x) (Err (Pad left.at))) c.0 c.1 in
    let r = raw_took size left mid head b.1 in
    let parts : left.bytes ≡ head ++ (replicate r.1.spelled.zeros 0 ++ mid.bytes) =
    r.1.parts ∙ ap (λ (x : List ℕ). x ++ mid.bytes) r.1.spelled.parts ∙ append_assoc head (replicate r.1.spelled.zeros 0) mid.bytes in
    head_not_end count left head (replicate r.1.spelled.zeros 0 ++ mid.bytes) d.0 some r.0 parts d.1

-- ---- what comes next

pub next_is_end : (count : ℕ) (left : Unread) (more : More) (x : Next × Unread) → end_at left ≡ Some more → end_here more left ≡ Ok x → next_at count left ≡ Ok x
unfolding next_at
next_is_end count left more x is here = ap (λ (m : Option More). next_with m count left) is ∙ here

pub next_is_row : (count : ℕ) (left new : Unread) (vs : List Value) → 0 < count → 0 < length left.bytes → row_at count left ≡ Ok (vs, new) → next_at count left ≡ Ok (Row vs, new)
unfolding next_at
next_is_row count left new vs some more e =
    let columns : eqb count 0 ≡ false = ne_eqb count 0 (λ is. omega arith) in
    let bytes : eqb (length left.bytes) 0 ≡ false = ne_eqb (length left.bytes) 0 (λ is. omega arith) in
    rw (row_not_end count left new vs some e, columns, bytes, e) refl

pub next_is_fault : (count : ℕ) (left : Unread) (f : WordFault) → 0 < count → 0 < length left.bytes → end_at left ≡ None → row_at count left ≡ Err f → next_at count left ≡ Err (of_word f)
unfolding next_at
next_is_fault count left f some more none e =
    let columns : eqb count 0 ≡ false = ne_eqb count 0 (λ is. omega arith) in
    let bytes : eqb (length left.bytes) 0 ≡ false = ne_eqb (length left.bytes) 0 (λ is. omega arith) in
    rw (none, columns, bytes, e) refl

abbrev row_in : Result (List Value × Unread) WordFault → Result (Next × Unread) RowReadFault
row_in r = in_part r >>= λ row. Ok (Row row.0, row.1)

or_true : (b : Bool) (r : Result (List Value × Unread) WordFault) → cond (b || true) (Err NoEnd) (row_in r) ≡ Err NoEnd
or_true true r = refl
or_true false r = refl

pub next_is_none : (count : ℕ) (left : Unread) → (count ≡ 0) ⊎ (length left.bytes ≡ 0) → end_at left ≡ None → next_at count left ≡ Err NoEnd
unfolding next_at
next_is_none count left (inl is) none = rw (none, eq-eqb count 0 is) refl
next_is_none count left (inr is) none = rw (none, eq-eqb (length left.bytes) 0 is) (or_true (eqb count 0) (row_at count left))

-- a fault of the row is that of what comes next
fault_is : {X : Type 0} (f : WordFault) (row : Result (List Value × Unread) WordFault) (next : Result X RowReadFault) → Fails f row → (row ≡ Err f → next ≡ Err (of_word f)) → FailsReading (of_word f) next
fault_is word_faults.NoMemory row next fails so = tt
fault_is (word_faults.Short n) row next fails so = so fails
fault_is (word_faults.NoNul n) row next fails so = so fails
fault_is (word_faults.NotUtf8 n) row next fails so = so fails
fault_is (word_faults.Pad n) row next fails so = so fails
fault_is (word_faults.BadCode n m) row next fails so = so fails
fault_is (word_faults.Float n) row next fails so = so fails

-- what looking for an end word gave, if this is the fault without one
abbrev pub EndOr : RowReadFault → Unread → Unread → Result Next RowReadFault → Type 0
EndOr fault left new result = MatchOption (end_at left) (result ≡ Err fault) (λ more. (result ≡ Ok (End more)) × (end_here more left ≡ Ok (End more, new)))

none_or_end : (count : ℕ) (left new : Unread) (result : Result Next RowReadFault) (end : Option More) → end_at left ≡ end → (count ≡ 0) ⊎ (length left.bytes ≡ 0)
    → MatchOption end (result ≡ Err NoEnd) (λ more. (result ≡ Ok (End more)) × (end_here more left ≡ Ok (End more, new))) → Finds (λ next. next) (next_at count) left new result
none_or_end count left new result None is none gave = rw gave (next_is_none count left none is)
none_or_end count left new result (Some more) is none gave = rw gave.0 (next_is_end count left more (End more, new) is gave.1)

-- where no row can stand
pub end_only : (count : ℕ) (left new : Unread) (result : Result Next RowReadFault) → (count ≡ 0) ⊎ (length left.bytes ≡ 0) → EndOr NoEnd left new result → Finds (λ next. next) (next_at count) left new result
end_only count left new result none gave = none_or_end count left new result (end_at left) refl none gave

fault_or_end : (count : ℕ) (left new : Unread) (f : WordFault) (result : Result Next RowReadFault) (end : Option More) → end_at left ≡ end → 0 < count → 0 < length left.bytes → Fails f (row_at count left)
    → MatchOption end (result ≡ Err (of_word f)) (λ more. (result ≡ Ok (End more)) × (end_here more left ≡ Ok (End more, new))) → Finds (λ next. next) (next_at count) left new result
fault_or_end count left new f result None is some more fails gave = rw gave (fault_is f (row_at count left) (next_at count left) fails (next_is_fault count left f some more is))
fault_or_end count left new f result (Some end) is some more fails gave = rw gave.0 (next_is_end count left end (End end, new) is gave.1)

-- if the row has a fault; the reader is where it stood
pub end_or_fault : (count : ℕ) (old left new : Unread) (f : WordFault) (fault : RowReadFault) (result : Result Next RowReadFault) → 0 < count → 0 < length old.bytes → left ≡ old → Fails f (row_at count old) → fault ≡ of_word f
    → EndOr fault left new result → Finds (λ next. next) (next_at count) old new result
end_or_fault count old left new f fault result some more stays fails is gave =
    let there = subst (λ (u : Unread). EndOr fault u new result) stays gave in
    fault_or_end count old new f result (end_at old) refl some more fails (subst (λ (e : RowReadFault). EndOr e old new result) is there)
