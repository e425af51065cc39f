-- Each value, tuple and row has one encoding, and what is written is among what is read.
use Rattle.std.proofs.Common.{◌≡◌, ℕ, ◌^◌, ◌<◌, List, [], ◌∷◌, ◌++◌, length, replicate, refl, sym, ap, ◌∙◌, arith}
use Rattle.std.specs.Int.{w64, cast_unsigned}
use Rattle.std.specs.List.{AllByRecursion}
use Rattle.std.proofs.lemmas.List.{length-replicate}
use Rattle.std.proofs.lemmas.Int.{to_z-of_z, of_z-to_z}
use mir.ValLaws.{of_z_fits}
use Rattle.byteorder.specs.Endian.{little_bytes}
use Rattle.wire_words.specs.declared.value.Value.{Value}
use Rattle.wire_words.specs.declared.value.Value.TheVariants.{Integer, Text, Blob, Null}
use Rattle.wire_words.specs.declared.value.Dialect.TheVariants as dialects
use Rattle.wire_words.specs.Items.{word, raw, IsPadded}
use Rattle.wire_words.specs.Values.{codes, type_of, types_of, value, values, tuple, row, halves, IsInRange, IsRounded, IsValue, AreValues, IsTuple, IsTupleRead, IsRow}
use Rattle.wire_words.proofs.Nul.{text_is_spelled, spelled_is_text}
use Rattle.wire_words.proofs.Padding.{raw_is_padded, padded_is_raw}

-- ---- values

value_spelled : (v : Value) → IsInRange v → IsValue dialects.Exact (type_of v) v (value v)
value_spelled (Integer n) fits = record {
  number = cast_unsigned w64 n;
  spelled = record { fits = (of_z_fits w64 n fits).fits; parts = refl };
  read_so = sym (to_z-of_z w64 n fits);
}
value_spelled (Text t) fits = text_is_spelled t fits.0 fits.1
value_spelled (Blob b) fits = record { first = word (length b); second = raw b; parts = refl; is_first = record { fits = fits; parts = refl }; is_second = raw_is_padded b }
value_spelled Null fits = record { fits = omega arith; parts = refl }

value_only : (v : Value) (bytes : List ℕ) → IsValue dialects.Exact (type_of v) v bytes → bytes ≡ value v
value_only (Integer n) bytes s =
    let number : s.number ≡ cast_unsigned w64 n = sym (of_z-to_z w64 s.number s.spelled.fits) ∙ ap (cast_unsigned w64) (sym s.read_so) in
    s.spelled.parts ∙ ap word number
value_only (Text t) bytes s = spelled_is_text t bytes s
value_only (Blob b) bytes s = s.parts ∙ ap (λ (x : List ℕ). x ++ s.second) s.is_first.parts ∙ ap (λ (x : List ℕ). word (length b) ++ x) (padded_is_raw b s.second s.is_second)
value_only Null bytes s = s.parts

values_spelled : (vs : List Value) → AllByRecursion IsInRange vs → AreValues dialects.Exact (types_of vs) vs (values vs)
values_spelled [] fits = refl
values_spelled (v ∷ vs) fits = record { first = value v; second = values vs; parts = refl; is_first = value_spelled v fits.0; is_second = values_spelled vs fits.1 }

values_only : (vs : List Value) (bytes : List ℕ) → AreValues dialects.Exact (types_of vs) vs bytes → bytes ≡ values vs
values_only [] bytes s = s
values_only (v ∷ vs) bytes s =
    s.parts ∙ ap (λ (x : List ℕ). x ++ s.second) (value_only v s.first s.is_first) ∙ ap (λ (x : List ℕ). value v ++ x) (values_only vs s.second s.is_second)

-- ---- tuples and rows

pub tuple_spelled : (width : ℕ) (vs : List Value) → length vs < 256 ^ width → AllByRecursion IsInRange vs → IsTuple width vs (tuple width vs)
tuple_spelled width vs counted fits =
    let head = little_bytes width (length vs) ++ codes (types_of vs) in
    record { counted = counted; spelled = record { first = raw head; second = values vs; parts = refl; is_first = raw_is_padded head; is_second = values_spelled vs fits } }

pub tuple_only : (width : ℕ) (vs : List Value) (bytes : List ℕ) → IsTuple width vs bytes → bytes ≡ tuple width vs
tuple_only width vs bytes t =
    let s = t.spelled in
    let head = little_bytes width (length vs) ++ codes (types_of vs) in
    s.parts ∙ ap (λ (x : List ℕ). x ++ s.second) (padded_is_raw head s.first s.is_first) ∙ ap (λ (x : List ℕ). raw head ++ x) (values_only vs s.second s.is_second)

pub row_spelled : (vs : List Value) → AllByRecursion IsInRange vs → IsRow vs (row vs)
row_spelled vs fits =
    let head = halves (codes (types_of vs)) in
    record { first = raw head; second = values vs; parts = refl; is_first = raw_is_padded head; is_second = values_spelled vs fits }

pub row_only : (vs : List Value) (bytes : List ℕ) → IsRow vs bytes → bytes ≡ row vs
row_only vs bytes s =
    let head = halves (codes (types_of vs)) in
    s.parts ∙ ap (λ (x : List ℕ). x ++ s.second) (padded_is_raw head s.first s.is_first) ∙ ap (λ (x : List ℕ). raw head ++ x) (values_only vs s.second s.is_second)

-- ---- what is written is among what a client may send

padded_is_rounded : (bytes padded : List ℕ) → IsPadded bytes padded → IsRounded bytes padded
padded_is_rounded bytes padded p = record { others = replicate p.zeros 0; few = omega (arith, length-replicate {A = ℕ} p.zeros 0, p.few); parts = p.parts; whole = p.whole }

value_accepted : (v : Value) (bytes : List ℕ) → IsValue dialects.Exact (type_of v) v bytes → IsValue dialects.Client (type_of v) v bytes
value_accepted (Integer n) bytes s = s
value_accepted (Text t) bytes s = s
value_accepted (Blob b) bytes s = record { first = s.first; second = s.second; parts = s.parts; is_first = s.is_first; is_second = padded_is_rounded b s.second s.is_second }
value_accepted Null bytes s = s

values_accepted : (vs : List Value) (bytes : List ℕ) → AreValues dialects.Exact (types_of vs) vs bytes → AreValues dialects.Client (types_of vs) vs bytes
values_accepted [] bytes s = s
values_accepted (v ∷ vs) bytes s = record {
  first = s.first;
  second = s.second;
  parts = s.parts;
  is_first = value_accepted v s.first s.is_first;
  is_second = values_accepted vs s.second s.is_second;
}

pub tuple_accepted : (width : ℕ) (vs : List Value) (bytes : List ℕ) → IsTuple width vs bytes → IsTupleRead width vs bytes
tuple_accepted width vs bytes t =
    let s = t.spelled in
    let head = little_bytes width (length vs) ++ codes (types_of vs) in
    record {
      types = types_of vs;
      counted = t.counted;
      spelled = record { first = s.first; second = s.second; parts = s.parts; is_first = padded_is_rounded head s.first s.is_first; is_second = values_accepted vs s.second s.is_second };
    }
