-- The checksum of a write-ahead log, in the SQLite file format: two sums of 32 bits over the words of some bytes.
use Rattle.std.specs.Prelude.{ℕ, ◌+◌, ◌/◌, ◌%◌, ◌^◌, List, length, drop, fold}
use Rattle.std.specs.Simd.{first_chunks}
use Rattle.byteorder.specs.Endian.{big_number, little_number}
use Rattle.wal_frames.specs.declared.checksums.WordOrder.{WordOrder}
use Rattle.wal_frames.specs.declared.checksums.WordOrder.TheVariants.{Big, Little}

-- the word in the first four bytes
abbrev pub word_in : WordOrder → List ℕ → ℕ
word_in Big bytes = big_number 4 bytes
word_in Little bytes = little_number 4 bytes

-- both sums after two more words: the first grows by the first word and the second sum, and then the second by the
-- second word and the first sum
abbrev pub after_words : ℕ × ℕ → ℕ → ℕ → ℕ × ℕ
after_words sums x y =
    let first = (sums.0 + x + sums.1) % 2 ^ 32 in
    (first, (sums.1 + y + first) % 2 ^ 32)

-- both sums after the two words of eight more bytes
unfoldable pub after_piece : (List ℕ → ℕ) → ℕ × ℕ → List ℕ → ℕ × ℕ
after_piece word sums piece = after_words sums (word piece) (word (drop 4 piece))

-- both sums after these bytes, eight at a time
unfoldable pub sums_over : (List ℕ → ℕ) → ℕ × ℕ → List ℕ → ℕ × ℕ
sums_over word start bytes = fold (after_piece word) start (first_chunks 8 (length bytes / 8) bytes)

-- the checksum of these bytes, going on from two sums
abbrev pub checksum : WordOrder → ℕ × ℕ → List ℕ → ℕ × ℕ
checksum order start bytes = sums_over (word_in order) start bytes
