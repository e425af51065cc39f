-- Values: the one encoding of each, alone, in a tuple and in a row, and which bytes encode it.
use Rattle.std.specs.Prelude.{◌≡◌, ◌<◌, ◌^◌, ◌+◌, ◌*◌, ◌%◌, ℕ, ℤ, List, [], ◌∷◌, ◌++◌, length, IsUtf8, FitsSigned}
use Rattle.std.specs.Int.{w64, cast_unsigned, cast_signed}
use Rattle.std.specs.List.{AllByRecursion}
use Rattle.byteorder.specs.Endian.{little_bytes}
use Rattle.wire_words.specs.declared.value.Value.{Value}
use Rattle.wire_words.specs.declared.value.Value.TheVariants.{Integer, Text, Blob, Null}
use Rattle.wire_words.specs.declared.value.ValueType.{ValueType}
use Rattle.wire_words.specs.declared.value.ValueType.TheVariants as types
use Rattle.wire_words.specs.declared.value.Dialect.{Dialect}
use Rattle.wire_words.specs.declared.value.Dialect.TheVariants as dialects
use Rattle.wire_words.specs.Items.{word, text, blob, raw, HasNoNul, IsPadded, IsWord, IsText}

-- ---- the one encoding

-- the number that represents a type
abbrev pub code : ValueType → ℕ
code types.Integer = 1
code types.Float = 2
code types.Text = 3
code types.Blob = 4
code types.Null = 5
code types.UnixTime = 9
code types.Iso8601 = 10
code types.Boolean = 11

-- the type as which a value is written
abbrev pub type_of : Value → ValueType
type_of (Integer n) = types.Integer
type_of (Text t) = types.Text
type_of (Blob b) = types.Blob
type_of Null = types.Null

abbrev pub types_of : List Value → List ValueType
types_of [] = []
types_of (v ∷ vs) = type_of v ∷ types_of vs

abbrev pub codes : List ValueType → List ℕ
codes [] = []
codes (t ∷ ts) = code t ∷ codes ts

-- the words of a value: an integer in two's complement, and a word of zeros for a null
abbrev pub value : Value → List ℕ
value (Integer n) = word (cast_unsigned w64 n)
value (Text t) = text t
value (Blob b) = blob b
value Null = word 0

abbrev pub values : List Value → List ℕ
values [] = []
values (v ∷ vs) = value v ++ values vs

-- a tuple: the count in this many bytes, one code a value, zeros to a whole word, and the values
abbrev pub tuple : ℕ → List Value → List ℕ
tuple width vs = raw (little_bytes width (length vs) ++ codes (types_of vs)) ++ values vs

-- a tuple of parameters: its count is one byte
abbrev pub params : List Value → List ℕ
params vs = tuple 1 vs

-- a wide tuple of parameters: its count has 32 bits
abbrev pub params_wide : List Value → List ℕ
params_wide vs = tuple 4 vs

-- numbers of four bits, two in a byte, the first of them in the low half
abbrev pub halves : List ℕ → List ℕ
halves [] = []
halves (a ∷ []) = a ∷ []
halves (a ∷ b ∷ others) = (a + 16 * b) ∷ halves others

-- a row: four bits of code a value, zeros to a whole word, and the values
abbrev pub row : List Value → List ℕ
row vs = raw (halves (codes (types_of vs))) ++ values vs

-- a text can be written if it holds no NUL
abbrev pub IsWritable : Value → Type 0
IsWritable (Integer n) = Unit {0}
IsWritable (Text t) = HasNoNul t
IsWritable (Blob b) = Unit {0}
IsWritable Null = Unit {0}

abbrev pub AreWritable : List Value → Type 0
AreWritable vs = AllByRecursion IsWritable vs

-- what the parts of a value hold, so that it has an encoding
abbrev pub IsInRange : Value → Type 0
IsInRange (Integer n) = FitsSigned w64 n
IsInRange (Text t) = IsUtf8 t × HasNoNul t
IsInRange (Blob b) = length b < 2 ^ 64
IsInRange Null = Unit {0}

-- ---- which bytes encode it

-- the bytes and then fewer than eight others, in all a whole number of words
pub record IsRounded (bytes rounded : List ℕ) : Type 0 where
  pub others : List ℕ
  pub few : length others < 8
  pub parts : rounded ≡ bytes ++ others
  pub whole : length rounded % 8 ≡ 0

-- the bytes, filled up to a whole word: by zeros, or by anything where a client wrote it
abbrev pub IsFilled : Dialect → List ℕ → List ℕ → Type 0
IsFilled dialects.Exact = IsPadded
IsFilled dialects.Client = IsRounded

-- the bytes are two parts, one after the other
pub record Joined (IsFirst IsSecond : List ℕ → Type 0) (bytes : List ℕ) : Type 0 where
  pub first : List ℕ
  pub second : List ℕ
  pub parts : bytes ≡ first ++ second
  pub is_first : IsFirst first
  pub is_second : IsSecond second

-- these bytes encode the integer: they are a word, and it is the integer in two's complement
pub record IsInteger (n : ℤ) (bytes : List ℕ) : Type 0 where
  pub number : ℕ
  pub spelled : IsWord number bytes
  pub read_so : n ≡ cast_signed w64 number

-- these bytes encode the blob: its length in a word, it itself, and what fills it up
abbrev pub IsBlob : Dialect → List ℕ → List ℕ → Type 0
IsBlob dialect content = Joined (IsWord (length content)) (IsFilled dialect content)

-- these bytes encode the value as one of this type: times and booleans are integers, and a date is a text
abbrev pub IsValue : Dialect → ValueType → Value → List ℕ → Type 0
IsValue dialect types.Integer (Integer n) = IsInteger n
IsValue dialect types.UnixTime (Integer n) = IsInteger n
IsValue dialect types.Boolean (Integer n) = IsInteger n
IsValue dialect types.Text (Text t) = IsText t
IsValue dialect types.Iso8601 (Text t) = IsText t
IsValue dialect types.Blob (Blob b) = IsBlob dialect b
IsValue dialect types.Null Null = IsWord 0
IsValue dialect _ _ = λ bytes. ⊥

-- these bytes encode the values, one after the other, as values of these types
abbrev pub AreValues : Dialect → List ValueType → List Value → List ℕ → Type 0
AreValues dialect [] [] = λ bytes. bytes ≡ []
AreValues dialect (t ∷ ts) (v ∷ vs) = Joined (IsValue dialect t v) (AreValues dialect ts vs)
AreValues dialect _ _ = λ bytes. ⊥

-- these bytes encode the values as a tuple whose count has this many bytes
pub record IsTuple (width : ℕ) (vs : List Value) (bytes : List ℕ) : Type 0 where
  pub counted : length vs < 256 ^ width
  pub spelled : Joined (IsPadded (little_bytes width (length vs) ++ codes (types_of vs))) (AreValues dialects.Exact (types_of vs) vs) bytes

abbrev pub IsParams : List Value → List ℕ → Type 0
IsParams = IsTuple 1

abbrev pub IsParamsWide : List Value → List ℕ → Type 0
IsParamsWide = IsTuple 4

-- These bytes encode the values as a client may write a tuple: times and booleans for integers, dates for texts,
-- and anything after the codes and after a blob.
pub record IsTupleRead (width : ℕ) (vs : List Value) (bytes : List ℕ) : Type 0 where
  pub types : List ValueType
  pub counted : length vs < 256 ^ width
  pub spelled : Joined (IsRounded (little_bytes width (length vs) ++ codes types)) (AreValues dialects.Client types vs) bytes

abbrev pub IsParamsRead : List Value → List ℕ → Type 0
IsParamsRead = IsTupleRead 1

abbrev pub IsParamsWideRead : List Value → List ℕ → Type 0
IsParamsWideRead = IsTupleRead 4

-- these bytes encode the row
abbrev pub IsRow : List Value → List ℕ → Type 0
IsRow vs = Joined (IsPadded (halves (codes (types_of vs)))) (AreValues dialects.Exact (types_of vs) vs)
