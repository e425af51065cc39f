-- The sums that the files of a node carry.
use Rattle.std.specs.Prelude.{◌≡◌, ◌≢◌, ℕ, zero, suc, ◌+◌, ◌*◌, ◌^◌, ◌/◌, ◌%◌, ◌<◌, ◌==◌, cond, List, [], ◌∷◌, length, take, drop, bit_xor}
use Rattle.std.specs.Int.{w64, rotate_left}
use Rattle.byteorder.specs.Endian.{little_bytes, little_number}
use Rattle.wire_words.specs.Items.{AreBytes}
use Rattle.sha2.specs.Sha256.{sha256}

-- CRC-32, one bit: the reflected polynomial comes in where a bit falls out
abbrev pub crc_bit : ℕ → ℕ
crc_bit c = cond (c % 2 == 1) (bit_xor (c / 2) 0xEDB88320) (c / 2)

unfoldable pub crc_bits : ℕ → ℕ → ℕ
crc_bits zero c = c
crc_bits (suc n) c = crc_bits n (crc_bit c)

-- a byte comes in at the low end, and eight bits fall out
abbrev pub crc_byte : ℕ → ℕ → ℕ
crc_byte c b = crc_bits 8 (bit_xor c b)

unfoldable pub crc_from : ℕ → List ℕ → ℕ
crc_from c [] = c
crc_from c (b ∷ bs) = crc_from (crc_byte c b) bs

-- the start and the final mask are all ones
unfoldable pub crc32_of : List ℕ → ℕ
crc32_of bytes = bit_xor (crc_from 0xFFFFFFFF bytes) 0xFFFFFFFF

-- the first eight bytes of SHA-256
unfoldable pub sum8_of : List ℕ → List ℕ
sum8_of bytes = take 8 (sha256 bytes)

-- The sum over words: one word of eight bytes comes in.
abbrev pub mix_factor : ℕ
mix_factor = 0x9E3779B185EBCA87

abbrev pub mixed : ℕ → ℕ → ℕ
mixed state x = rotate_left w64 ((bit_xor state x * mix_factor) % 2 ^ 64) 31

-- the first n words of bytes come in, one after another; a byte past the end is 0
unfoldable pub mixed_over : ℕ → ℕ → List ℕ → ℕ
mixed_over state zero bytes = state
mixed_over state (suc n) bytes = mixed (mixed_over state n bytes) (little_number 8 (drop (8 * n) bytes))

-- how many words bytes have, the last one filled up
abbrev pub words_in : ℕ → ℕ
words_in size = (size + 7) / 8

-- at the end the number of bytes comes in, and the factor twice
abbrev pub mix_ended : ℕ → ℕ → ℕ
mix_ended state size = mixed (mixed (mixed state size) mix_factor) mix_factor

abbrev pub mix_start : ℕ
mix_start = 0xC2B2AE3D27D4EB4F

unfoldable pub word_sum_of : List ℕ → List ℕ
word_sum_of bytes = little_bytes 8 (mix_ended (mixed_over mix_start (words_in (length bytes)) bytes) (length bytes))

-- the sum of a format, as eight bytes: the CRC-32 as a number of 64 bits in format 1, SHA-256 in format 2, and the sum
-- over words since format 3
abbrev pub sum_bytes : ℕ → List ℕ → List ℕ
sum_bytes format bytes = cond (format == 1) (little_bytes 8 (crc32_of bytes)) (cond (format == 2) (sum8_of bytes) (word_sum_of bytes))

-- Bytes that differ from as many others within one word alone, the one of this place.
pub record DifferInWord (place : ℕ) (x y : List ℕ) : Type 0 where
  pub bytes : AreBytes x
  pub others : AreBytes y
  pub short : length x < 2 ^ 64
  pub long : length x ≡ length y
  pub front : take (8 * place) x ≡ take (8 * place) y
  pub behind : drop (8 * suc place) x ≡ drop (8 * suc place) y
  pub differ : x ≢ y

-- their sums over words differ
abbrev pub FindsChangedWords : Type 0
FindsChangedWords = (place : ℕ) (x y : List ℕ) → DifferInWord place x y → word_sum_of x ≢ word_sum_of y
