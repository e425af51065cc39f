-- The file of a snapshot: five words, namely format, index, term, size and a sum, and the bytes with zeros to a whole
-- word. The sum is that of index, term, size and bytes.
use Rattle.std.specs.Prelude.{◌≡◌, ◌<◌, ◌≤◌, ℕ, ◌+◌, Bool, ◌&&◌, ◌==◌, cond, nat_lt, nat_le, List, ◌++◌, length, take, drop, Option, Some, None}
use Rattle.std.specs.Str.{bytes_eq}
use Rattle.wire_words.specs.Items.{raw, gap}
use Rattle.wire_words.specs.Reading.{are_zeros}
use Rattle.store_laws.specs.Store.{Snap, no_snap}
use Rattle.store_format.specs.Sums.{sum_bytes, word_sum_of}
use Rattle.store_format.specs.declared.snapshot.SnapshotFile.{SnapshotFile}
use Rattle.store_format.specs.Words.{word_from, is_known, front_bytes}

abbrev pub size_in : List ℕ → ℕ
size_in x = word_from 24 x

-- what the sum is taken of
abbrev pub summed : List ℕ → List ℕ
summed x = take 24 (drop 8 x) ++ take (size_in x) (drop 40 x)

-- this many bytes, and zeros after them to a whole word, and no more
abbrev pub fills : ℕ → List ℕ → Bool
fills size body = (length body == size + gap size) && are_zeros size (gap size) body

-- a known format, and the index of the file's name, which is at least 1
unfoldable pub head_fits : ℕ → List ℕ → Bool
head_fits number x = nat_le 40 (length x) && nat_lt 0 number && is_known (word_from 0 x) && (word_from 8 x == number)

-- a file is whole where all of that holds, with all its bytes, and the sum matches
unfoldable pub is_snapshot : ℕ → List ℕ → Bool
is_snapshot number x =
    head_fits number x && fills (size_in x) (drop 40 x)
    && bytes_eq (take 8 (drop 32 x)) (sum_bytes (word_from 0 x) (summed x))

-- the snapshot of a file of this number
unfoldable pub snap_of : ℕ → List ℕ → Snap
snap_of number x = cond (is_snapshot number x) (record { index = number; term = word_from 16 x; bytes = take (size_in x) (drop 40 x) }) no_snap

-- the file with this head: head, sum and bytes, each with zeros to a whole word
abbrev pub with_head : List ℕ → List ℕ → List ℕ
with_head head bytes = raw head ++ raw (word_sum_of (drop 8 head ++ bytes)) ++ raw bytes

-- the file as it is written, in format 3
abbrev pub snapshot_bytes : ℕ → ℕ → List ℕ → List ℕ
snapshot_bytes index term bytes = with_head (front_bytes index term (length bytes)) bytes

-- the same by the code's value
abbrev pub snap_of_found : Option SnapshotFile → Snap
snap_of_found None = no_snap
snap_of_found (Some s) = record { index = s.index; term = s.term; bytes = s.bytes.now }

-- Whether the file of a number holds a whole snapshot that is newer than the one of an index: its term, and how many bytes
-- its state has, from the place 40 on.
abbrev pub IsNewer : ℕ → ℕ → List ℕ → Option (ℕ × ℕ) → Type 0
IsNewer number index x None = (snap_of number x).index ≤ index
IsNewer number index x (Some found) = (snap_of number x ≡ record { index = number; term = found.0; bytes = take found.1 (drop 40 x) }) × ((index < number) × (40 + found.1 ≤ length x))
