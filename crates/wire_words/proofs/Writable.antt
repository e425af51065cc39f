-- What is read can be written.
use Rattle.std.proofs.Common.{◌≡◌, ◌<◌, ◌≤◌, ◌^◌, ℕ, List, [], ◌∷◌, length, Ok, arith}
use Rattle.wire_words.specs.declared.value.Value.{Value}
use Rattle.wire_words.specs.declared.value.Value.TheVariants.{Integer, Text, Blob, Null}
use Rattle.wire_words.specs.declared.value.ValueType.{ValueType}
use Rattle.wire_words.specs.declared.value.ValueType.TheVariants as types
use Rattle.wire_words.specs.declared.value.Dialect.{Dialect}
use Rattle.wire_words.specs.declared.value.Dialect.TheVariants as dialects
use Rattle.wire_words.specs.Items.{AreBytes}
use Rattle.wire_words.specs.Values.{types_of, IsWritable, AreWritable, IsValue, AreValues}
use Rattle.wire_words.specs.Reading.{Unread}
use Rattle.wire_words.specs.ReadingValues.{values_at, tuple_at, params_at, params_wide_at, row_at}
use Rattle.wire_words.proofs.ValueLaws.{values_took}
use Rattle.wire_words.proofs.TupleLaws.{IsWidth, width_1, width_4, tuple_took}
use Rattle.wire_words.proofs.RowLaws.{row_took}

spelled_writable : (dialect : Dialect) (t : ValueType) (v : Value) (bytes : List ℕ) → IsValue dialect t v bytes → IsWritable v
spelled_writable dialect t (Integer n) bytes s = tt
spelled_writable dialect t (Blob b) bytes s = tt
spelled_writable dialect t Null bytes s = tt
spelled_writable dialect types.Text (Text x) bytes s = s.no_nul
spelled_writable dialect types.Iso8601 (Text x) bytes s = s.no_nul
spelled_writable dialect types.Integer (Text x) bytes s = absurd s
spelled_writable dialect types.Float (Text x) bytes s = absurd s
spelled_writable dialect types.Blob (Text x) bytes s = absurd s
spelled_writable dialect types.Null (Text x) bytes s = absurd s
spelled_writable dialect types.UnixTime (Text x) bytes s = absurd s
spelled_writable dialect types.Boolean (Text x) bytes s = absurd s

all_writable : (dialect : Dialect) (ts : List ValueType) (vs : List Value) (bytes : List ℕ) → AreValues dialect ts vs bytes → AreWritable vs
all_writable dialect ts [] bytes s = tt
all_writable dialect [] (v ∷ vs) bytes s = absurd s
all_writable dialect (t ∷ ts) (v ∷ vs) bytes s = (spelled_writable dialect t v s.first s.is_first, all_writable dialect ts vs s.second s.is_second)

pub values_writable : (dialect : Dialect) (ts : List ValueType) (old new : Unread) (vs : List Value) → AreBytes old.bytes → values_at dialect ts old ≡ Ok (vs, new) → AreWritable vs
values_writable dialect ts old new vs fits e =
    let t = values_took dialect ts old new vs fits e in
    all_writable dialect ts vs t.item t.spelled

tuple_writable : (width : ℕ) → IsWidth width → (old new : Unread) (vs : List Value) → AreBytes old.bytes → tuple_at width old ≡ Ok (vs, new) → AreWritable vs × (length vs < 256 ^ width)
tuple_writable width is old new vs fits e =
    let t = tuple_took width is old new vs fits e in
    (all_writable dialects.Client t.spelled.types vs t.spelled.spelled.second t.spelled.spelled.is_second, t.spelled.counted)

pub params_writable : (old new : Unread) (vs : List Value) → AreBytes old.bytes → params_at old ≡ Ok (vs, new) → AreWritable vs × (length vs ≤ 255)
params_writable old new vs fits e =
    let t = tuple_writable 1 width_1 old new vs fits e in
    let small : length vs < 256 = t.1 in
    (t.0, omega (arith, small))

pub params_wide_writable : (old new : Unread) (vs : List Value) → AreBytes old.bytes → params_wide_at old ≡ Ok (vs, new) → AreWritable vs
params_wide_writable old new vs fits e = (tuple_writable 4 width_4 old new vs fits e).0

pub row_writable : (count : ℕ) (old new : Unread) (vs : List Value) → AreBytes old.bytes → row_at count old ≡ Ok (vs, new) → AreWritable vs
row_writable count old new vs fits e =
    let t = (row_took count old new vs fits e).1 in
    all_writable dialects.Exact (types_of vs) vs t.spelled.second t.spelled.is_second
