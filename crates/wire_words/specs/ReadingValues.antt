-- Reading values, tuples and rows from left to right, with the first fault that is met. The head of a tuple or a row is
-- one item, and each value after it is one.
use Rattle.std.specs.Prelude.{◌≡◌, ◌==◌, ◌+◌, ◌/◌, ◌%◌, ℕ, Bool, true, false, List, [], ◌∷◌, length, take, drop, Option, Some, None, Result, Ok, Err, MatchResult, nat_lt, if◌then◌else◌}
use Rattle.std.specs.Int.{w64, cast_signed}
use Rattle.std.specs.List.{list_all, list_any}
use Rattle.byteorder.specs.Endian.{little_number}
use Rattle.wire_words.specs.declared.fault.WordFault.{WordFault}
use Rattle.wire_words.specs.declared.fault.WordFault.TheVariants.{Short, Pad, BadCode, Float}
use Rattle.wire_words.specs.declared.value.Value.{Value}
use Rattle.wire_words.specs.declared.value.Value.TheVariants.{Integer, Text, Blob, Null}
use Rattle.wire_words.specs.declared.value.ValueType.{ValueType}
use Rattle.wire_words.specs.declared.value.ValueType.TheVariants as types
use Rattle.wire_words.specs.declared.value.Dialect.{Dialect}
use Rattle.wire_words.specs.declared.value.Dialect.TheVariants as dialects
use Rattle.wire_words.specs.Items.{gap, is_zero}
use Rattle.wire_words.specs.Reading.{◌>>=◌, Unread, word_at, text_at, raw_at, blob_at, filled_at, each_at, Fails}

-- ---- types by their codes

-- the types that only clients write
abbrev pub client_type : Dialect → ℕ → Option ValueType
client_type dialects.Exact n = None
client_type dialects.Client n =
    if n == 9 then Some types.UnixTime else if n == 10 then Some types.Iso8601
    else if n == 11 then Some types.Boolean else None

-- the type that a number represents
abbrev pub type_with : Dialect → ℕ → Option ValueType
type_with dialect n =
    if n == 1 then Some types.Integer else if n == 2 then Some types.Float else if n == 3 then Some types.Text
    else if n == 4 then Some types.Blob else if n == 5 then Some types.Null else client_type dialect n

abbrev pub known : ℕ → ℕ → Option ValueType → Result ValueType WordFault
known at n None = Err (BadCode at n)
known at n (Some t) = Ok t

-- the types of these codes, which are in an item that begins at this place
abbrev pub all_types : Dialect → ℕ → List ℕ → Result (List ValueType) WordFault
all_types dialect at [] = Ok []
all_types dialect at (n ∷ ns) = do
  first ← known at n (type_with dialect n)
  others ← all_types dialect at ns
  Ok (first ∷ others)

abbrev pub is_float : ValueType → Bool
is_float types.Float = true
is_float _ = false

abbrev pub no_float : ℕ → List ValueType → Result (List ValueType) WordFault
no_float at ts = if list_any is_float ts then Err (Float at) else Ok ts

-- the types of these codes, of which none may be a float: a code that represents no type is the fault before a float is
unfoldable pub types_at : Dialect → ℕ → List ℕ → Result (List ValueType) WordFault
types_at dialect at ns = all_types dialect at ns >>= no_float at

-- ---- values

abbrev pub integer_at : Unread → Result (Value × Unread) WordFault
integer_at left = do
  n ← word_at left
  Ok (Integer (cast_signed w64 n.0), n.1)

abbrev pub text_value_at : Unread → Result (Value × Unread) WordFault
text_value_at left = do
  t ← text_at left
  Ok (Text t.0, t.1)

abbrev pub blob_value_at : Dialect → Unread → Result (Value × Unread) WordFault
blob_value_at dialect left = do
  b ← blob_at dialect left
  Ok (Blob b.0, b.1)

-- a null is a word, which has to be zero
abbrev pub null_at : Unread → Result (Value × Unread) WordFault
null_at left = do
  n ← word_at left
  if n.0 == 0 then Ok (Null, n.1) else Err (Pad left.at)

-- a value of this type
unfoldable pub value_at : Dialect → ValueType → Unread → Result (Value × Unread) WordFault
value_at dialect types.Integer left = integer_at left
value_at dialect types.Float left = Err (Float left.at)
value_at dialect types.Text left = text_value_at left
value_at dialect types.Blob left = blob_value_at dialect left
value_at dialect types.Null left = null_at left
value_at dialect types.UnixTime left = integer_at left
value_at dialect types.Iso8601 left = text_value_at left
value_at dialect types.Boolean left = integer_at left

-- values of these types, one after the other
abbrev pub values_at : Dialect → List ValueType → Unread → Result (List Value × Unread) WordFault
values_at dialect ts left = each_at (value_at dialect) ts left

-- ---- tuples and rows

-- the head of a tuple: this many codes after a count of this width, and what fills them up to a whole word
abbrev pub codes_at : ℕ → ℕ → Unread → Result (List ValueType × Unread) WordFault
codes_at width count left = do
  head ← filled_at dialects.Client left.at (width + count) left
  types ← types_at dialects.Client left.at (drop width head.0)
  Ok (types, head.1)

-- a tuple of this many values, whose count has this width
abbrev pub tuple_with : ℕ → ℕ → Unread → Result (List Value × Unread) WordFault
tuple_with width count left = do
  types ← codes_at width count left
  values_at dialects.Client types.0 types.1

-- a tuple as a client writes it, with its count in this many bytes
unfoldable pub tuple_at : ℕ → Unread → Result (List Value × Unread) WordFault
tuple_at width left =
    if nat_lt (length left.bytes) width then Err (Short left.at)
    else tuple_with width (little_number width left.bytes) left

-- a tuple whose count is one byte
abbrev pub params_at : Unread → Result (List Value × Unread) WordFault
params_at left = tuple_at 1 left

-- a tuple whose count has 32 bits
abbrev pub params_wide_at : Unread → Result (List Value × Unread) WordFault
params_wide_at left = tuple_at 4 left

-- the numbers of four bits in these bytes, the one in the low half of a byte first
abbrev pub split_halves : List ℕ → List ℕ
split_halves [] = []
split_halves (b ∷ bytes) = (b % 16) ∷ (b / 16) ∷ split_halves bytes

-- how many bytes this many codes of four bits fill, up to a whole word
abbrev pub row_head_size : ℕ → ℕ
row_head_size count = (count + 1) / 2 + gap ((count + 1) / 2)

-- the types of a row of this many values, of whose head these are the codes and the zeros after them
abbrev pub row_types : ℕ → ℕ → List ℕ → Result (List ValueType) WordFault
row_types at count halves = do
  types ← types_at dialects.Exact at (take count halves)
  if list_all is_zero (drop count halves) then Ok types else Err (Pad at)

-- the head of a row of this many values: whole words with their codes
unfoldable pub row_head_at : ℕ → Unread → Result (List ValueType × Unread) WordFault
row_head_at count left = do
  head ← raw_at (row_head_size count) left
  types ← row_types left.at count (split_halves head.0)
  Ok (types, head.1)

-- a row of this many values
unfoldable pub row_at : ℕ → Unread → Result (List Value × Unread) WordFault
row_at count left = do
  types ← row_head_at count left
  values_at dialects.Exact types.0 types.1

-- What a call gave is what reading gives, unless memory ran out.
abbrev pub Found : {X Y : Type 0} → (X → Y) → Result Y WordFault → Result X WordFault → Type 0
Found view reading result = MatchResult result (λ x. reading ≡ Ok (view x)) (λ e. Fails e reading)
