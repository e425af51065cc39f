-- Tuples are read exactly if the bytes are their encoding.
use Rattle.std.proofs.Common.{◌≡◌, ℕ, ◌+◌, ◌^◌, ◌%◌, ◌<◌, ◌≤◌, false, ltb, List, [], ◌∷◌, ◌++◌, length, take, drop, Ok, refl, sym, ap, subst, ◌∙◌, append_assoc, arith}
use Rattle.std.proofs.lemmas.Bool.{ltb-false, le-ltb}
use Rattle.std.proofs.lemmas.List.{length-append, length-take-le, length-drop, take_at, drop_at, take-append-drop}
use Rattle.byteorder.specs.Endian.{little_bytes, little_number}
use Rattle.byteorder.specs.Numbers.{little_from-lt, little_number-reads_back}
use Rattle.wire_words.specs.declared.fault.WordFault.TheVariants.{Short}
use Rattle.wire_words.specs.declared.value.Value.{Value}
use Rattle.wire_words.specs.declared.value.ValueType.{ValueType}
use Rattle.wire_words.specs.declared.value.Dialect.TheVariants as dialects
use Rattle.wire_words.specs.Items.{AreBytes}
use Rattle.wire_words.specs.Values.{codes, IsRounded, AreValues, Joined, IsTupleRead}
use Rattle.wire_words.specs.Reading.{◌>>=◌, Unread, filled_at, Took}
use Rattle.wire_words.specs.ReadingValues.{types_at, values_at, codes_at, tuple_with, tuple_at}
use Rattle.wire_words.proofs.Numbers.{bytes_of_number_4}
use Rattle.wire_words.proofs.ReadBack.{refused_not, ok_is, bind_ok}
use Rattle.wire_words.proofs.Parts.{took_both, took_parts, bytes_after, client_took, client_again}
use Rattle.wire_words.proofs.ValueLaws.{values_took, values_again, values_length, codes_read, client_types, codes_length}

-- a count in this many bytes is read as it was written
pub record IsWidth (width : ℕ) : Type 0 where
  pub size : (n : ℕ) → length (little_bytes width n) ≡ width
  pub back : (bytes : List ℕ) → width ≤ length bytes → AreBytes bytes → little_bytes width (little_number width bytes) ≡ take width bytes
  pub below : (bytes : List ℕ) → AreBytes bytes → little_number width bytes < 256 ^ width
  pub again : (n : ℕ) (rest : List ℕ) → n < 256 ^ width → little_number width (little_bytes width n ++ rest) ≡ n

one_byte : (bytes : List ℕ) → 1 ≤ length bytes → AreBytes bytes → little_bytes 1 (little_number 1 bytes) ≡ take 1 bytes
one_byte [] long fits = absurd (omega (arith, long))
one_byte (b ∷ bytes) long fits =
    let small : b < 256 = fits 0 in
    let same : little_number 1 (b ∷ bytes) % 256 ≡ b = omega (arith, small) in
    ap (λ (n : ℕ). n ∷ []) same

pub width_1 : IsWidth 1
width_1 = record { size = λ n. refl; back = one_byte; below = λ bytes fits. little_from-lt 0 1 bytes fits; again = λ n rest lt. little_number-reads_back 1 n rest lt }

pub width_4 : IsWidth 4
width_4 = record { size = λ n. refl; back = bytes_of_number_4; below = λ bytes fits. little_from-lt 0 4 bytes fits; again = λ n rest lt. little_number-reads_back 4 n rest lt }

-- the first bytes of a front are those of the whole
front_of_front : (n : ℕ) (a b whole : List ℕ) → whole ≡ a ++ b → n ≤ length a → take n whole ≡ take n a
front_of_front n a b whole parts le =
    let split : whole ≡ take n a ++ (drop n a ++ b) = parts ∙ ap (λ (x : List ℕ). x ++ b) (sym (take-append-drop n a)) ∙ append_assoc (take n a) (drop n a) b in
    ap (take n) split ∙ take_at (take n a) (drop n a ++ b) n (length-take-le n a le)

pub tuple_took : (width : ℕ) → IsWidth width → (old new : Unread) (vs : List Value) → AreBytes old.bytes → tuple_at width old ≡ Ok (vs, new) → Took (IsTupleRead width vs) old new
unfolding tuple_at
tuple_took width w old new vs fits e =
    let n = little_number width old.bytes in
    let g = refused_not (ltb (length old.bytes) width) (Short old.at) (tuple_with width n old) (vs, new) e in
    let a = bind_ok (codes_at width n old) (λ ts. values_at dialects.Client ts.0 ts.1) (vs, new) g.1 in
    let b = bind_ok (filled_at dialects.Client old.at (width + n) old) (λ head. types_at dialects.Client old.at (drop width head.0) >>= λ ts. Ok (ts, head.1)) a.0 a.1 in
    let head = b.0.0 in
    let mid = b.0.1 in
    let c = bind_ok (types_at dialects.Client old.at (drop width head)) (λ ts. Ok (ts, mid)) a.0 b.2 in
    let ts = c.0 in
    let made : List ValueType × Unread = (ts, mid) in
    let behind : values_at dialects.Client ts mid ≡ Ok (vs, new) = subst (λ (x : List ValueType × Unread). values_at dialects.Client x.0 x.1 ≡ Ok (vs, new)) (sym (ok_is made a.0 c.2)) a.2 in
    let f = client_took old.at (width + n) old mid head b.1 in
    let v = values_took dialects.Client ts mid new vs (bytes_after old mid fits f.1) behind in
    let same_codes : codes ts ≡ drop width head = codes_read dialects.Client old.at (drop width head) ts c.1 in
    let many : length ts ≡ length vs = values_length dialects.Client ts vs v.item v.spelled in
    let counted : length vs ≡ n = omega (arith, f.0, many, codes_length ts, ap length same_codes, length-drop width head) in
    let parts : old.bytes ≡ head ++ (f.1.spelled.others ++ mid.bytes) =
    f.1.parts ∙ ap (λ (x : List ℕ). x ++ mid.bytes) f.1.spelled.parts ∙ append_assoc head f.1.spelled.others mid.bytes in
    let first : take width head ≡ little_bytes width (length vs) =
    sym (front_of_front width head (f.1.spelled.others ++ mid.bytes) old.bytes parts (omega (arith, f.0))) ∙ sym (w.back old.bytes (ltb-false _ _ g.0) fits) ∙ ap (little_bytes width) (sym counted) in
    let whole : head ≡ little_bytes width (length vs) ++ codes ts =
    sym (take-append-drop width head) ∙ ap (λ (x : List ℕ). x ++ drop width head) first ∙ ap (λ (x : List ℕ). little_bytes width (length vs) ++ x) (sym same_codes) in
    let below : length vs < 256 ^ width = subst (λ (k : ℕ). k < 256 ^ width) (sym counted) (w.below old.bytes fits) in
    let both = took_both old mid new (subst (λ (x : List ℕ). Took (IsRounded x) old mid) whole f.1) v in
    record { item = both.item; spelled = record { types = ts; counted = below; spelled = both.spelled }; parts = both.parts; place = both.place }

pub tuple_again : (width : ℕ) → IsWidth width → (old new : Unread) (vs : List Value) → Took (IsTupleRead width vs) old new → tuple_at width old ≡ Ok (vs, new)
unfolding tuple_at
tuple_again width w old new vs t =
    let s = t.spelled in
    let ts = s.types in
    let n = length vs in
    let whole : Took (Joined (IsRounded (little_bytes width n ++ codes ts)) (AreValues dialects.Client ts vs)) old new = record { item = t.item; spelled = s.spelled; parts = t.parts; place = t.place } in
    let p = took_parts old new whole in
    let mid = p.0 in
    let head = little_bytes width n ++ codes ts in
    let many : length ts ≡ n = values_length dialects.Client ts vs p.2.item p.2.spelled in
    let size : length head ≡ width + n = length-append (little_bytes width n) (codes ts) ∙ omega (arith, w.size n, codes_length ts, many) in
    let parts : old.bytes ≡ little_bytes width n ++ (codes ts ++ (p.1.spelled.others ++ mid.bytes)) =
    p.1.parts ∙ ap (λ (x : List ℕ). x ++ mid.bytes) p.1.spelled.parts ∙ append_assoc head p.1.spelled.others mid.bytes ∙ append_assoc (little_bytes width n) (codes ts) (p.1.spelled.others ++ mid.bytes) in
    let number : little_number width old.bytes ≡ n = ap (little_number width) parts ∙ w.again n (codes ts ++ (p.1.spelled.others ++ mid.bytes)) s.counted in
    let room : ltb (length old.bytes) width ≡ false = le-ltb _ _ (omega (arith, ap length parts, length-append (little_bytes width n) (codes ts ++ (p.1.spelled.others ++ mid.bytes)), w.size n)) in
    let filled : filled_at dialects.Client old.at (width + n) old ≡ Ok (head, mid) = subst (λ (k : ℕ). filled_at dialects.Client old.at k old ≡ Ok (head, mid)) size (client_again old.at old mid head p.1) in
    let dropped : drop width head ≡ codes ts = drop_at (little_bytes width n) (codes ts) width (w.size n) in
    let types : types_at dialects.Client old.at (drop width head) ≡ Ok ts = ap (types_at dialects.Client old.at) dropped ∙ client_types old.at ts vs p.2.item p.2.spelled in
    let coded : codes_at width n old ≡ Ok (ts, mid) =
    ap (λ r. r >>= λ h. types_at dialects.Client old.at (drop width h.0) >>= λ x. Ok (x, h.1)) filled ∙ ap (λ r. r >>= λ x. Ok (x, mid)) types in
    let tuple : tuple_with width n old ≡ Ok (vs, new) = ap (λ r. r >>= λ x. values_at dialects.Client x.0 x.1) coded ∙ values_again dialects.Client ts vs mid new p.2 in
    rw (room, number) tuple
