-- Rows are read exactly if the bytes are their encoding.
use Rattle.std.proofs.Common.{◌≡◌, ℕ, zero, suc, ◌+◌, ◌-◌, ◌*◌, ◌/◌, ◌%◌, ◌<◌, ◌≤◌, Bool, true, false, ◌&&◌, cond, eqb, List, [], ◌∷◌, ◌++◌, length, take, drop, get_or, replicate, Option, Some, None, Ok, Err, inl, inr, refl, sym, ap, subst, ◌∙◌, arith}
use Rattle.std.specs.List.{list_all, list_any}
use Rattle.std.proofs.lemmas.Bool.{eqb-true}
use Rattle.std.proofs.lemmas.List.{length-append, length-replicate, length-take-le, take_at, append-nil}
use Rattle.wire_words.specs.declared.fault.WordFault.TheVariants.{Pad, Float}
use Rattle.wire_words.specs.declared.value.Value.{Value}
use Rattle.wire_words.specs.declared.value.Value.TheVariants.{Integer, Text, Blob, Null}
use Rattle.wire_words.specs.declared.value.ValueType.{ValueType}
use Rattle.wire_words.specs.declared.value.ValueType.TheVariants as types
use Rattle.wire_words.specs.declared.value.Dialect.TheVariants as dialects
use Rattle.wire_words.specs.Items.{gap, is_zero, AreBytes, IsPadded, IsRaw}
use Rattle.wire_words.specs.Values.{code, codes, type_of, types_of, halves, IsValue, AreValues, IsRow}
use Rattle.wire_words.specs.Reading.{◌>>=◌, Unread, raw_at, Took}
use Rattle.wire_words.specs.ReadingValues.{type_with, known, all_types, is_float, no_float, types_at, values_at, split_halves, row_head_size, row_types, row_head_at, row_at}
use Rattle.wire_words.proofs.ReadBack.{refused_not, passed, ok_is, bind_ok}
use Rattle.wire_words.proofs.Choices.{one_of, none_of}
use Rattle.wire_words.proofs.Numbers.{AreBytes-take}
use Rattle.wire_words.proofs.Padding.{raw_took, raw_again, all_zeros, padded_is_raw}
use Rattle.wire_words.proofs.Parts.{took_both, took_parts, bytes_after}
use Rattle.wire_words.proofs.ValueLaws.{values_took, values_again, codes_read, exact_types, codes_length, types_length, known_ok}

both_true : (a b : Bool) → (a && b) ≡ true → (a ≡ true) × (b ≡ true)
both_true true b e = (refl, e)
both_true false b e = absurd cc

-- ---- halves of bytes

pub split_length : (bytes : List ℕ) → length (split_halves bytes) ≡ 2 * length bytes
split_length [] = refl
split_length (b ∷ bytes) = omega (arith, split_length bytes)

-- if all halves are zeros, all bytes are
zero_halves : (bytes : List ℕ) → AreBytes bytes → list_all is_zero (split_halves bytes) ≡ true → bytes ≡ replicate (length bytes) 0
zero_halves [] fits e = refl
zero_halves (b ∷ bytes) fits e =
    let low = both_true (is_zero (b % 16)) (is_zero (b / 16) && list_all is_zero (split_halves bytes)) e in
    let high = both_true (is_zero (b / 16)) (list_all is_zero (split_halves bytes)) low.1 in
    let is : b ≡ 0 = omega (arith, eqb-true (b % 16) 0 low.0, eqb-true (b / 16) 0 high.0) in
    ap (λ (x : ℕ). x ∷ bytes) is ∙ ap (λ (xs : List ℕ). 0 ∷ xs) (zero_halves bytes (λ i. fits (suc i)) high.1)

-- Bytes whose halves are this many numbers and then zeros are the halves of these numbers and then zeros.
joined_halves : (count : ℕ) (bytes : List ℕ) → AreBytes bytes → count ≤ 2 * length bytes → list_all is_zero (drop count (split_halves bytes)) ≡ true
    → bytes ≡ halves (take count (split_halves bytes)) ++ replicate (length bytes - (count + 1) / 2) 0
joined_halves zero bytes fits le e =
    let many : length bytes ≡ length bytes - (zero + 1) / 2 = omega arith in
    zero_halves bytes fits e ∙ ap (λ (n : ℕ). replicate n 0) many
joined_halves (suc zero) [] fits le e = absurd (omega (arith, le))
joined_halves (suc zero) (b ∷ bytes) fits le e =
    let high = both_true (is_zero (b / 16)) (list_all is_zero (split_halves bytes)) e in
    let is : b ≡ b % 16 = omega (arith, eqb-true (b / 16) 0 high.0) in
    let many : length bytes ≡ suc (length bytes) - (suc zero + 1) / 2 = omega arith in
    ap (λ (x : ℕ). x ∷ bytes) is ∙ ap (λ (xs : List ℕ). (b % 16) ∷ xs) (zero_halves bytes (λ i. fits (suc i)) high.1)
    ∙ ap (λ (n : ℕ). (b % 16) ∷ replicate n 0) many
joined_halves (suc (suc count)) [] fits le e = absurd (omega (arith, le))
joined_halves (suc (suc count)) (b ∷ bytes) fits le e =
    let is : b ≡ b % 16 + 16 * (b / 16) = omega arith in
    let rest = joined_halves count bytes (λ i. fits (suc i)) (omega (arith, le)) e in
    let many : length bytes - (count + 1) / 2 ≡ suc (length bytes) - (suc (suc count) + 1) / 2 = omega arith in
    ap (λ (x : ℕ). x ∷ bytes) is ∙ ap (λ (xs : List ℕ). (b % 16 + 16 * (b / 16)) ∷ xs) rest
    ∙ ap (λ (n : ℕ). (b % 16 + 16 * (b / 16)) ∷ (halves (take count (split_halves bytes)) ++ replicate n 0)) many

-- numbers of four bits
AreFour : List ℕ → Type 0
AreFour ns = (i : ℕ) → get_or ns i 0 < 16

zeros_split : (k : ℕ) → split_halves (replicate k 0) ≡ replicate (2 * k) 0
zeros_split zero = refl
zeros_split (suc k) =
    let two : 2 * suc k ≡ suc (suc (2 * k)) = omega arith in
    ap (λ (xs : List ℕ). 0 ∷ 0 ∷ xs) (zeros_split k) ∙ ap (λ (n : ℕ). replicate n 0) (sym two)

small_code : (t : ValueType) → code t < 16
small_code types.Integer = omega arith
small_code types.Float = omega arith
small_code types.Text = omega arith
small_code types.Blob = omega arith
small_code types.Null = omega arith
small_code types.UnixTime = omega arith
small_code types.Iso8601 = omega arith
small_code types.Boolean = omega arith

-- the codes of a row are read from their halves
pub codes_split : (ts : List ValueType) (k : ℕ) → take (length (codes ts)) (split_halves (halves (codes ts) ++ replicate k 0)) ≡ codes ts
codes_split [] k = refl
codes_split (t ∷ []) k =
    let low : code t % 16 ≡ code t = omega (arith, small_code t) in
    ap (λ (n : ℕ). n ∷ []) low
codes_split (t ∷ u ∷ ts) k =
    let low : (code t + 16 * code u) % 16 ≡ code t = omega (arith, small_code t) in
    let high : (code t + 16 * code u) / 16 ≡ code u = omega (arith, small_code t) in
    ap (λ (n : ℕ). n ∷ ((code t + 16 * code u) / 16) ∷ take (length (codes ts)) (split_halves (halves (codes ts) ++ replicate k 0))) low
    ∙ ap (λ (n : ℕ). code t ∷ n ∷ take (length (codes ts)) (split_halves (halves (codes ts) ++ replicate k 0))) high
    ∙ ap (λ (ns : List ℕ). code t ∷ code u ∷ ns) (codes_split ts k)

pub zeros_behind : (ts : List ValueType) (k : ℕ) → list_all is_zero (drop (length (codes ts)) (split_halves (halves (codes ts) ++ replicate k 0))) ≡ true
zeros_behind [] k = ap (list_all is_zero) (zeros_split k) ∙ all_zeros (2 * k)
zeros_behind (t ∷ []) k =
    let high : code t / 16 ≡ 0 = omega (arith, small_code t) in
    ap (λ (n : ℕ). is_zero n && list_all is_zero (split_halves (replicate k 0))) high ∙ ap (list_all is_zero) (zeros_split k) ∙ all_zeros (2 * k)
zeros_behind (t ∷ u ∷ ts) k = zeros_behind ts k

pub halves_length : (ts : List ValueType) → length (halves (codes ts)) ≡ (length ts + 1) / 2
halves_length [] = refl
halves_length (t ∷ []) = refl
halves_length (t ∷ u ∷ ts) = omega (arith, halves_length ts)

-- ---- the types of a row are those of its values

abbrev is_written : ValueType → Bool
is_written types.UnixTime = false
is_written types.Iso8601 = false
is_written types.Boolean = false
is_written _ = true

some_written : (b : Bool) (t other : ValueType) (others : Option ValueType) → is_written t ≡ true → (others ≡ Some other → is_written other ≡ true)
    → cond b (Some t) others ≡ Some other → is_written other ≡ true
some_written b t other others is later e =
    elim (one_of b t others other e) [
      | inl p ↦ ap is_written (sym p.1) ∙ is
      | inr e' ↦ later e'
    ]

exact_written : (n : ℕ) (t : ValueType) → type_with dialects.Exact n ≡ Some t → is_written t ≡ true
exact_written n t e =
    some_written (eqb n 1) types.Integer t _ refl (some_written (eqb n 2) types.Float t _ refl (some_written (eqb n 3) types.Text t _ refl (some_written (eqb n 4) types.Blob t _ refl (some_written (eqb n 5) types.Null t None refl (none_of t (is_written t ≡ true)))))) e

all_written : (at : ℕ) (ns : List ℕ) (ts : List ValueType) → all_types dialects.Exact at ns ≡ Ok ts → list_all is_written ts ≡ true
all_written at [] ts e = ap (list_all is_written) (sym (ok_is [] ts e))
all_written at (n ∷ ns) ts e =
    let a = bind_ok (known at n (type_with dialects.Exact n)) (λ first. all_types dialects.Exact at ns >>= λ others. Ok (first ∷ others)) ts e in
    let b = bind_ok (all_types dialects.Exact at ns) (λ others. Ok (a.0 ∷ others)) ts a.2 in
    let first : is_written a.0 ≡ true = exact_written n a.0 (known_ok at n (type_with dialects.Exact n) a.0 a.1) in
    ap (list_all is_written) (sym (ok_is (a.0 ∷ b.0) ts b.2)) ∙ ap (λ (w : Bool). w && list_all is_written b.0) first ∙ all_written at ns b.0 b.1

types_written : (at : ℕ) (ns : List ℕ) (ts : List ValueType) → types_at dialects.Exact at ns ≡ Ok ts → list_all is_written ts ≡ true
unfolding types_at
types_written at ns ts e =
    let a = bind_ok (all_types dialects.Exact at ns) (no_float at) ts e in
    let g = refused_not (list_any is_float a.0) (Float at) (Ok a.0) ts a.2 in
    ap (list_all is_written) (sym (ok_is a.0 ts g.1)) ∙ all_written at ns a.0 a.1

written_as : (t : ValueType) (v : Value) (bytes : List ℕ) → is_written t ≡ true → IsValue dialects.Exact t v bytes → t ≡ type_of v
written_as types.Integer (Integer n) bytes w s = refl
written_as types.Text (Text x) bytes w s = refl
written_as types.Blob (Blob b) bytes w s = refl
written_as types.Null Null bytes w s = refl
written_as types.UnixTime v bytes w s = absurd cc
written_as types.Iso8601 v bytes w s = absurd cc
written_as types.Boolean v bytes w s = absurd cc
written_as _ _ bytes w s = absurd s

types_are : (ts : List ValueType) (vs : List Value) (bytes : List ℕ) → list_all is_written ts ≡ true → AreValues dialects.Exact ts vs bytes → ts ≡ types_of vs
types_are [] [] bytes w s = refl
types_are [] (v ∷ vs) bytes w s = absurd s
types_are (t ∷ ts) [] bytes w s = absurd s
types_are (t ∷ ts) (v ∷ vs) bytes w s =
    let both = both_true (is_written t) (list_all is_written ts) w in
    ap (λ (x : ValueType). x ∷ ts) (written_as t v s.first both.0 s.is_first) ∙ ap (λ (xs : List ValueType). type_of v ∷ xs) (types_are ts vs s.second both.1 s.is_second)

-- ---- rows

-- whole words are filled up by nothing
no_filling : (bytes item : List ℕ) → length bytes % 8 ≡ 0 → IsRaw bytes item → item ≡ bytes
no_filling bytes item whole s =
    let none : gap (length bytes) ≡ 0 = omega (arith, whole) in
    padded_is_raw bytes item s ∙ ap (λ (n : ℕ). bytes ++ replicate n 0) none ∙ append-nil bytes

-- the bytes of a front are bytes
front_bytes : (front rest whole : List ℕ) → whole ≡ front ++ rest → AreBytes whole → AreBytes front
front_bytes front rest whole parts fits =
    let is : take (length front) whole ≡ front = ap (take (length front)) parts ∙ take_at front rest (length front) refl in
    subst AreBytes is (AreBytes-take (length front) whole fits)

pub row_took : (count : ℕ) (old new : Unread) (vs : List Value) → AreBytes old.bytes → row_at count old ≡ Ok (vs, new) → (length vs ≡ count) × Took (IsRow vs) old new
unfolding row_at row_head_at
row_took count old new vs fits e =
    let size = row_head_size count in
    let a = bind_ok (row_head_at count old) (λ ts. values_at dialects.Exact ts.0 ts.1) (vs, new) e in
    let b = bind_ok (raw_at size old) (λ head. row_types old.at count (split_halves head.0) >>= λ ts. Ok (ts, head.1)) a.0 a.1 in
    let head = b.0.0 in
    let mid = b.0.1 in
    let hs = split_halves head in
    let c = bind_ok (row_types old.at count hs) (λ ts. Ok (ts, mid)) a.0 b.2 in
    let ts = c.0 in
    let d = bind_ok (types_at dialects.Exact old.at (take count hs)) (λ x. cond (list_all is_zero (drop count hs)) (Ok x) (Err (Pad old.at))) ts c.1 in
    let g = passed (list_all is_zero (drop count hs)) (Pad old.at) (Ok d.0) ts d.2 in
    let typed : types_at dialects.Exact old.at (take count hs) ≡ Ok ts = d.1 ∙ g.1 in
    let made : List ValueType × Unread = (ts, mid) in
    let behind : values_at dialects.Exact ts mid ≡ Ok (vs, new) = subst (λ (x : List ValueType × Unread). values_at dialects.Exact x.0 x.1 ≡ Ok (vs, new)) (sym (ok_is made a.0 c.2)) a.2 in
    let r = raw_took size old mid head b.1 in
    let whole : length head % 8 ≡ 0 = omega (arith, r.0) in
    let item : r.1.item ≡ head = no_filling head r.1.item whole r.1.spelled in
    let parts : old.bytes ≡ head ++ mid.bytes = r.1.parts ∙ ap (λ (x : List ℕ). x ++ mid.bytes) item in
    let v = values_took dialects.Exact ts mid new vs (bytes_after old mid fits r.1) behind in
    let same : ts ≡ types_of vs = types_are ts vs v.item (types_written old.at (take count hs) ts typed) v.spelled in
    let read : codes ts ≡ take count hs = codes_read dialects.Exact old.at (take count hs) ts typed in
    let room : count ≤ length hs = omega (arith, split_length head, r.0) in
    let many : length vs ≡ count = omega (arith, ap length same, types_length vs, codes_length ts, ap length read, length-take-le count hs room) in
    let left = length head - (count + 1) / 2 in
    let joined : head ≡ halves (codes (types_of vs)) ++ replicate left 0 =
    joined_halves count head (front_bytes head mid.bytes old.bytes parts fits) (omega (arith, r.0)) g.0 ∙ ap (λ (ns : List ℕ). halves ns ++ replicate left 0) (sym read ∙ ap codes same) in
    let padded : IsPadded (halves (codes (types_of vs))) head = record { zeros = left; few = omega (arith, r.0); parts = joined; whole = whole } in
    let first : Took (IsPadded (halves (codes (types_of vs)))) old mid = record { item = head; spelled = padded; parts = parts; place = r.1.place ∙ ap (λ (x : List ℕ). old.at + length x) item } in
    (many, took_both old mid new first (subst (λ (xs : List ValueType). Took (AreValues dialects.Exact xs vs) mid new) same v))

pub row_again : (old new : Unread) (vs : List Value) → Took (IsRow vs) old new → row_at (length vs) old ≡ Ok (vs, new)
unfolding row_at row_head_at
row_again old new vs t =
    let p = took_parts old new t in
    let mid = p.0 in
    let ts = types_of vs in
    let k = p.1.spelled.zeros in
    let count = length vs in
    let head = p.1.item in
    let is : head ≡ halves (codes ts) ++ replicate k 0 = p.1.spelled.parts in
    let size : length head ≡ row_head_size count =
    omega (arith, ap length is, length-append (halves (codes ts)) (replicate k 0), length-replicate {A = ℕ} k 0, halves_length ts, types_length vs, p.1.spelled.few, p.1.spelled.whole) in
    let whole : Took (IsRaw head) old mid = record { item = head; spelled = record { zeros = 0; few = omega arith; parts = sym (append-nil head); whole = p.1.spelled.whole }; parts = p.1.parts; place = p.1.place } in
    let raw : raw_at (row_head_size count) old ≡ Ok (head, mid) = subst (λ (n : ℕ). raw_at n old ≡ Ok (head, mid)) size (raw_again old mid head whole) in
    let many : count ≡ length (codes ts) = omega (arith, codes_length ts, types_length vs) in
    let front : take count (split_halves head) ≡ codes ts = ap (λ (n : ℕ). take n (split_halves head)) many ∙ ap (λ (x : List ℕ). take (length (codes ts)) (split_halves x)) is ∙ codes_split ts k in
    let zeros : list_all is_zero (drop count (split_halves head)) ≡ true = ap (λ (n : ℕ). list_all is_zero (drop n (split_halves head))) many ∙ ap (λ (x : List ℕ). list_all is_zero (drop (length (codes ts)) (split_halves x))) is ∙ zeros_behind ts k in
    let typed : row_types old.at count (split_halves head) ≡ Ok ts = rw (front, exact_types old.at vs p.2.item p.2.spelled, zeros) refl in
    rw (raw, typed) (values_again dialects.Exact ts vs mid new p.2)
