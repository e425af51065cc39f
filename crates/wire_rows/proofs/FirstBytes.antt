-- The first byte of a row.
use Rattle.std.proofs.Common.{◌≢◌, ◌≤◌, List, [], ◌∷◌, slice_index, refl, lit≤, arith}
use Rattle.wire_words.specs.declared.value.Value.{Value}
use Rattle.wire_words.specs.declared.value.ValueType.{ValueType}
use Rattle.wire_words.specs.declared.value.ValueType.TheVariants as types
use Rattle.wire_words.specs.Values.{code, type_of, row}

code_small : (t : ValueType) → code t ≤ 11
code_small types.Integer = lit≤ tt
code_small types.Float = lit≤ tt
code_small types.Text = lit≤ tt
code_small types.Blob = lit≤ tt
code_small types.Null = lit≤ tt
code_small types.UnixTime = lit≤ tt
code_small types.Iso8601 = lit≤ tt
code_small types.Boolean = lit≤ tt

first_byte : (values : List Value) → values ≢ [] → slice_index (row values) 0 ≤ 187
first_byte [] some = absurd (some refl)
first_byte (v ∷ []) some = let small = code_small (type_of v) in omega arith
first_byte (v ∷ w ∷ values) some = let small = code_small (type_of v) in let other = code_small (type_of w) in omega arith

pub not_last : (values : List Value) → values ≢ [] → slice_index (row values) 0 ≢ 255
not_last values some is = let small = first_byte values some in absurd (omega arith)

pub not_follows : (values : List Value) → values ≢ [] → slice_index (row values) 0 ≢ 238
not_follows values some is = let small = first_byte values some in absurd (omega arith)
