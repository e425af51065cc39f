-- A batch of entries: its sums, a word for the first index, a word for the count, the heads of the entries, and what they
-- say. In format 1 the sums have four bytes each, since format 2 eight.
use Rattle.std.specs.Prelude.{ℕ, ◌+◌, ◌-◌, ◌==◌, ◌&&◌, Bool, cond, nat_lt, List, [], ◌++◌, length, take, drop, Option, Some, None, Result, Ok, Err}
use Rattle.std.specs.Str.{bytes_eq}
use Rattle.byteorder.specs.Endian.{little_bytes}
use Rattle.wire_words.specs.declared.fault.WordFault.{WordFault}
use Rattle.wire_words.specs.Items.{word}
use Rattle.wire_words.specs.Reading.{◌>>=◌, Unread, unread, word_at}
use Rattle.raft_messages.specs.Entries.{heads_at, contents_at, heads_bytes, contents_bytes}
use Rattle.store_laws.specs.Store.{Log, Read, Reader}
use Rattle.store_format.specs.Sums.{crc32_of, sum8_of, word_sum_of}
use Rattle.store_format.specs.declared.batch_reading.Body.{Body}
use Rattle.store_format.specs.declared.batch_reading.FoundBatch.{FoundBatch}

-- how many bytes a sum has, and both
abbrev pub sum_size : ℕ → ℕ
sum_size format = cond (format == 1) 4 8

abbrev pub sums_size : ℕ → ℕ
sums_size format = sum_size format + sum_size format

-- the sum of a header, or of what the entries say
abbrev pub batch_sum : ℕ → List ℕ → List ℕ
batch_sum format bytes = cond (format == 1) (little_bytes 4 (crc32_of bytes)) (cond (format == 2) (sum8_of bytes) (word_sum_of bytes))

-- what follows the sums: the first index, the entries, and where the header ends
unfoldable pub body_at : Unread → Result (Body × Unread) WordFault
body_at left = do
  first ← word_at left
  count ← word_at first.1
  heads ← heads_at count.0 count.1
  entries ← contents_at heads.0 heads.1
  Ok (record { first = first.0; entries = entries.0; header = heads.1.at }, entries.1)

-- the sums match, and the first index is at least 1
abbrev pub is_sound : ℕ → List ℕ → Body → ℕ → Bool
is_sound format bytes body end =
    bytes_eq (take (sum_size format) bytes) (batch_sum format (take body.header (drop (sums_size format) bytes)))
    && bytes_eq (take (sum_size format) (drop (sum_size format) bytes)) (batch_sum format (take (end - body.header) (drop body.header (drop (sums_size format) bytes))))
    && nat_lt 0 body.first

abbrev pub no_read : Read
no_read = record { batch = record { first = 0; entries = [] }; size = 0 }

abbrev pub read_of : ℕ → List ℕ → Result (Body × Unread) WordFault → Read
read_of format bytes (Err fault) = no_read
read_of format bytes (Ok x) = cond (is_sound format bytes x.0 x.1.at) (record { batch = record { first = x.0.first; entries = x.0.entries }; size = sums_size format + x.1.at }) no_read

-- the batch that bytes begin with, in a format
unfoldable pub batch_in : ℕ → Reader
batch_in format bytes = cond (nat_lt (length bytes) (sums_size format)) no_read (read_of format bytes (body_at (unread (drop (sums_size format) bytes))))

-- a batch as it is written, in format 3: after the sums the numbers, the heads, and what the entries say
unfoldable pub numbers_bytes : ℕ → ℕ → List ℕ
numbers_bytes first count = word first ++ word count

unfoldable pub header_bytes : Log → List ℕ
header_bytes b = numbers_bytes b.first (length b.entries) ++ heads_bytes b.entries

-- both sums in front of a header of this many bytes and of what follows it
unfoldable pub with_sums : ℕ → List ℕ → List ℕ
with_sums header body = word_sum_of (take header body) ++ (word_sum_of (drop header body) ++ body)

unfoldable pub batch_bytes : Log → List ℕ
batch_bytes b = word_sum_of (header_bytes b) ++ (word_sum_of (contents_bytes b.entries) ++ (header_bytes b ++ contents_bytes b.entries))

-- the same by the code's value
abbrev pub read_of_found : Option FoundBatch → Read
read_of_found None = no_read
read_of_found (Some b) = record { batch = record { first = b.first; entries = b.entries }; size = b.size }
