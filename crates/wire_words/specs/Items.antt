-- Items of a body: the one encoding of each value, and which bytes encode it. Each fills whole words of eight bytes.
use Rattle.std.specs.Prelude.{◌≡◌, ◌<◌, ◌^◌, ◌+◌, ◌-◌, ◌*◌, ◌/◌, ◌%◌, ◌==◌, ℕ, Bool, false, List, [], ◌∷◌, ◌++◌, length, replicate, slice_index, IsUtf8}
use Rattle.byteorder.specs.Endian.{little_bytes}
use Rattle.dq_base.specs.Names.{has_nul}

-- how many bytes fill n bytes up to a whole word
abbrev pub gap : ℕ → ℕ
gap n = (n + 7) / 8 * 8 - n

-- zeros that fill n bytes up to a whole word
abbrev pub zeros_after : ℕ → List ℕ
zeros_after n = replicate (gap n) 0

-- a number of 64 bits
abbrev pub word : ℕ → List ℕ
word n = little_bytes 8 n

-- two numbers of 32 bits in one word
abbrev pub pair : ℕ → ℕ → List ℕ
pair first second = little_bytes 4 first ++ little_bytes 4 second

-- the bytes, and zeros to a whole word
abbrev pub raw : List ℕ → List ℕ
raw bytes = bytes ++ zeros_after (length bytes)

-- the text, one NUL, and zeros to a whole word
abbrev pub text : List ℕ → List ℕ
text t = raw (t ++ 0 ∷ [])

-- the length in a word, the bytes, and zeros to a whole word
abbrev pub blob : List ℕ → List ℕ
blob bytes = word (length bytes) ++ raw bytes

-- each is a byte
abbrev pub AreBytes : List ℕ → Type 0
AreBytes bytes = (i : ℕ) → slice_index bytes i < 256

abbrev pub is_zero : ℕ → Bool
is_zero b = b == 0

-- no byte is NUL
abbrev pub HasNoNul : List ℕ → Type 0
HasNoNul bytes = has_nul bytes ≡ false

-- the bytes and then fewer than eight zeros, in all a whole number of words
pub record IsPadded (bytes padded : List ℕ) : Type 0 where
  pub zeros : ℕ
  pub few : zeros < 8
  pub parts : padded ≡ bytes ++ replicate zeros 0
  pub whole : length padded % 8 ≡ 0

-- these bytes encode the number
pub record IsWord (n : ℕ) (bytes : List ℕ) : Type 0 where
  pub fits : n < 2 ^ 64
  pub parts : bytes ≡ little_bytes 8 n

-- these bytes encode the two numbers
pub record IsPair (first second : ℕ) (bytes : List ℕ) : Type 0 where
  pub first_fits : first < 2 ^ 32
  pub second_fits : second < 2 ^ 32
  pub parts : bytes ≡ little_bytes 4 first ++ little_bytes 4 second

-- these bytes encode the bytes: they themselves, and zeros
abbrev pub IsRaw : List ℕ → List ℕ → Type 0
IsRaw content bytes = IsPadded content bytes

-- these bytes encode the text: UTF-8 without a NUL, one NUL, and zeros
pub record IsText (t bytes : List ℕ) : Type 0 where
  pub utf8 : IsUtf8 t
  pub no_nul : HasNoNul t
  pub padded : IsPadded (t ++ 0 ∷ []) bytes
