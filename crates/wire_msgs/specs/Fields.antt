-- The fields of a body, which the table of messages is made of, and the bytes that represent each.
use Rattle.std.specs.Prelude.{◌≡◌, ◌<◌, ◌≤◌, ◌^◌, ◌%◌, ℕ, Bool, true, false, List, [], ◌∷◌, ◌++◌, ◌⊎◌, length, IsUtf8}
use Rattle.std.specs.List.{AllByRecursion}
use Rattle.wire_words.specs.declared.message.Message.{Message}
use Rattle.wire_words.specs.declared.value.Value.{Value}
use Rattle.wire_words.specs.declared.value.Dialect.{Dialect}
use Rattle.wire_words.specs.declared.value.Dialect.TheVariants as dialects
use Rattle.wire_words.specs.Items.{word, pair, text, blob, raw, HasNoNul, IsWord, IsPair, IsText, IsRaw}
use Rattle.wire_words.specs.Values.{tuple, AreWritable, IsInRange, IsBlob, IsTuple, IsTupleRead}
use Rattle.wire_words.specs.Message.{message, IsBody}

-- a number; a number that isn't looked at; two numbers of 32 bits; a text; a blob; parameters, in a wide tuple or not,
-- which end a body; and the rest of a body, which is whole words
pub data Field : Type 0 where
  Word : ℕ → Field
  AnyWord : Field
  Pair : ℕ → ℕ → Field
  Text : List ℕ → Field
  Blob : List ℕ → Field
  Params : Bool → List Value → Field
  Rest : List ℕ → Field

-- a line of the table: the type of message, the schema, and the fields of the body in order
pub record Line : Type 0 where
  pub kind : ℕ
  pub schema : ℕ
  pub fields : List Field

-- a line in schema 0
abbrev pub line : ℕ → List Field → Line
line kind fields = record { kind = kind; schema = 0; fields = fields }

-- the schema of a message that may be wide
abbrev pub schema_of : Bool → ℕ
schema_of false = 0
schema_of true = 1

-- a line in schema 0, or in schema 1 where it is wide
abbrev pub line_in : Bool → ℕ → List Field → Line
line_in wide kind fields = record { kind = kind; schema = schema_of wide; fields = fields }

-- in how many bytes a tuple of parameters has its number
abbrev pub width : Bool → ℕ
width false = 1
width true = 4

-- how many parameters may be written
abbrev pub most_params : Bool → ℕ
most_params false = 255
most_params true = 32766

-- ---- the one encoding

-- parameters: no tuple if there are none
abbrev pub params_bytes : Bool → List Value → List ℕ
params_bytes wide [] = []
params_bytes wide (v ∷ vs) = tuple (width wide) (v ∷ vs)

-- a field as it is written: a word that isn't looked at is 0
abbrev pub field_bytes : Field → List ℕ
field_bytes (Word n) = word n
field_bytes AnyWord = word 0
field_bytes (Pair first second) = pair first second
field_bytes (Text t) = text t
field_bytes (Blob b) = blob b
field_bytes (Params wide vs) = params_bytes wide vs
field_bytes (Rest b) = raw b

-- the fields one after the other
abbrev pub body_bytes : List Field → List ℕ
body_bytes [] = []
body_bytes (field ∷ fields) = field_bytes field ++ body_bytes fields

-- the whole message
abbrev pub line_bytes : Line → List ℕ
line_bytes line = message line.kind line.schema (body_bytes line.fields)

-- ---- which bytes represent a field: exactly as it is written, or as a client may send it

abbrev pub IsAnyWord : Dialect → List ℕ → Type 0
IsAnyWord dialects.Exact bytes = IsWord 0 bytes
IsAnyWord dialects.Client bytes = (n : ℕ) × IsWord n bytes

-- there are no parameters, and there is nothing
pub record AreNone (vs : List Value) (bytes : List ℕ) : Type 0 where
  pub none : vs ≡ []
  pub nothing : bytes ≡ []

-- no parameters are written as nothing, and may be read as an empty tuple too
abbrev pub AreParams : Dialect → Bool → List Value → List ℕ → Type 0
AreParams dialects.Exact wide [] bytes = bytes ≡ []
AreParams dialects.Exact wide (v ∷ vs) bytes = IsTuple (width wide) (v ∷ vs) bytes
AreParams dialects.Client wide vs bytes = AreNone vs bytes ⊎ IsTupleRead (width wide) vs bytes

-- whole words, as they are
pub record IsRest (b bytes : List ℕ) : Type 0 where
  pub whole : length b % 8 ≡ 0
  pub same : IsRaw b bytes

abbrev pub IsField : Dialect → Field → List ℕ → Type 0
IsField dialect (Word n) bytes = IsWord n bytes
IsField dialect AnyWord bytes = IsAnyWord dialect bytes
IsField dialect (Pair first second) bytes = IsPair first second bytes
IsField dialect (Text t) bytes = IsText t bytes
IsField dialect (Blob b) bytes = IsBlob dialects.Exact b bytes
IsField dialect (Params wide vs) bytes = AreParams dialect wide vs bytes
IsField dialect (Rest b) bytes = IsRest b bytes

-- the bytes are those of the fields one after the other
abbrev pub AreFields : Dialect → List Field → List ℕ → Type 0
AreFields dialect [] bytes = bytes ≡ []
AreFields dialect (field ∷ fields) bytes = (front rest : List ℕ) × (bytes ≡ front ++ rest) × IsField dialect field front × AreFields dialect fields rest

-- the message represents the line
pub record Stands (dialect : Dialect) (line : Line) (m : Message) : Type 0 where
  pub kind : m.kind ≡ line.kind
  pub schema : m.schema ≡ line.schema
  pub fields : AreFields dialect line.fields m.body

-- the bytes are a message of the line, exactly as it is written
pub record WritesLine (line : Line) (bytes : List ℕ) : Type 0 where
  pub body : List ℕ
  pub fits : IsBody body
  pub fields : AreFields dialects.Exact line.fields body
  pub parts : bytes ≡ message line.kind line.schema body

-- ---- what can be written

-- what has an encoding: a text without a NUL, this many parameters whose texts have none, and a rest of whole words
abbrev pub HasSpelling : Field → Type 0
HasSpelling (Word n) = Unit {0}
HasSpelling AnyWord = Unit {0}
HasSpelling (Pair first second) = Unit {0}
HasSpelling (Text t) = HasNoNul t
HasSpelling (Blob b) = Unit {0}
HasSpelling (Params wide vs) = (length vs ≤ most_params wide) × AreWritable vs
HasSpelling (Rest b) = length b % 8 ≡ 0

abbrev pub HaveSpellings : List Field → Type 0
HaveSpellings [] = Unit {0}
HaveSpellings (field ∷ fields) = HasSpelling field × HaveSpellings fields

-- what the wire can hold: numbers of 64 and 32 bits, texts without a NUL, parameters in range, whole words
abbrev pub Fits : Field → Type 0
Fits (Word n) = n < 2 ^ 64
Fits AnyWord = Unit {0}
Fits (Pair first second) = (first < 2 ^ 32) × (second < 2 ^ 32)
Fits (Text t) = IsUtf8 t × HasNoNul t
Fits (Blob b) = length b < 2 ^ 64
Fits (Params wide vs) = (length vs < 256 ^ width wide) × AllByRecursion IsInRange vs
Fits (Rest b) = length b % 8 ≡ 0

abbrev pub AllFit : List Field → Type 0
AllFit [] = Unit {0}
AllFit (field ∷ fields) = Fits field × AllFit fields
