-- The head of a batch: its sums, a word for the first index, a word for the count, and the heads of the entries. What the entries say
-- isn't part of it.
use Rattle.std.specs.Prelude.{ℕ, ◌+◌, ◌*◌, ◌/◌, min, Bool, cond, nat_lt, List, [], ◌∷◌, length, take, drop, Option, Some, None, Result, Ok, Err}
use Rattle.std.specs.Str.{bytes_eq}
use Rattle.wire_words.specs.declared.fault.WordFault.{WordFault}
use Rattle.wire_words.specs.Reading.{◌>>=◌, Unread, unread, word_at}
use Rattle.raft_messages.specs.declared.entries.EntryHead.{EntryHead}
use Rattle.raft_messages.specs.Entries.{heads_at}
use Rattle.store_format.specs.Batches.{sum_size, sums_size, batch_sum}
use Rattle.folder_tail.specs.declared.heads.BatchHead.{BatchHead}

-- this many bytes with the zeros that fill them up to a whole word
abbrev pub padded : ℕ → ℕ
padded size = (size + 7) / 8 * 8

-- where the bytes of entries with these heads end; no place is above the greatest number of 64 bits
unfoldable pub contents_end : ℕ → List EntryHead → ℕ
contents_end at [] = at
contents_end at (h ∷ hs) = contents_end (min (at + padded h.size) 18446744073709551615) hs

-- the numbers and the heads, after the sums
unfoldable pub batch_head_at : Unread → Result (BatchHead × Unread) WordFault
batch_head_at left = do
  first ← word_at left
  count ← word_at first.1
  heads ← heads_at count.0 count.1
  Ok (record { first = first.0; header = heads.1.at; end = contents_end heads.1.at heads.0 }, heads.1)

-- the first sum is that of the head
abbrev pub has_head_sum : ℕ → List ℕ → ℕ → Bool
has_head_sum format bytes header = bytes_eq (take (sum_size format) bytes) (batch_sum format (take header (drop (sums_size format) bytes)))

abbrev pub head_of : ℕ → List ℕ → Result (BatchHead × Unread) WordFault → Option BatchHead
head_of format bytes (Err fault) = None
head_of format bytes (Ok x) = cond (has_head_sum format bytes x.0.header) (Some x.0) None

-- the head of the batch that bytes begin with
unfoldable pub head_in : ℕ → List ℕ → Option BatchHead
head_in format bytes = cond (nat_lt (length bytes) (sums_size format)) None (head_of format bytes (batch_head_at (unread (drop (sums_size format) bytes))))
