-- Entries as bytes, as they are in messages and in files: a head for each, and then what each says.
use Rattle.std.specs.Prelude.{◌≡◌, ℕ, zero, suc, ◌<◌, ◌^◌, ◌%◌, nat_lt, if◌then◌else◌, List, [], ◌∷◌, ◌++◌, length, Option, Some, None, Result, Ok, Err, MatchResult}
use Rattle.std.specs.List.{AllByRecursion}
use Rattle.raft_spec.specs.Log.{Entry}
use Rattle.wire_words.specs.declared.fault.WordFault.{WordFault}
use Rattle.wire_words.specs.declared.fault.WordFault.TheVariants.{BadCode, Pad}
use Rattle.wire_words.specs.Items.{word, pair, raw}
use Rattle.wire_words.specs.Reading.{◌>>=◌, Unread, word_at, pair_at, raw_at, Fails}
use Rattle.raft_messages.specs.declared.entry.EntryKind.{EntryKind}
use Rattle.raft_messages.specs.declared.entries.EntryHead.{EntryHead}
use Rattle.raft_messages.specs.Kinds.{kind_number, kind_value, kind_with}

-- ---- the one encoding

-- a head: the term in a word, and in the next word the kind, three zeros, and the number of bytes in 32 bits
abbrev pub head_bytes : Entry → List ℕ
head_bytes e = word e.term ++ pair (kind_number e.kind) (length e.bytes)

-- the heads, one after the other
abbrev pub heads_bytes : List Entry → List ℕ
heads_bytes [] = []
heads_bytes (e ∷ es) = head_bytes e ++ heads_bytes es

-- what each says, one after the other, each with zeros to a whole word
abbrev pub contents_bytes : List Entry → List ℕ
contents_bytes [] = []
contents_bytes (e ∷ es) = raw e.bytes ++ contents_bytes es

-- what a head can hold: a term of 64 bits, and a number of bytes of 32 bits
abbrev pub HasHead : Entry → Type 0
HasHead e = (e.term < 2 ^ 64) × (length e.bytes < 2 ^ 32)

abbrev pub HaveHeads : List Entry → Type 0
HaveHeads es = AllByRecursion HasHead es

-- ---- reading

-- the kind in the first half of a word, which begins at this place: its first byte is the kind's number, and three zeros follow
abbrev pub known_kind : ℕ → ℕ → Option EntryKind → Result EntryKind WordFault
known_kind at half None = Err (BadCode at (half % 256))
known_kind at half (Some kind) = if nat_lt half 256 then Ok kind else Err (Pad at)

-- a head
unfoldable pub head_at : Unread → Result (EntryHead × Unread) WordFault
head_at left = do
  term ← word_at left
  halves ← pair_at term.1
  kind ← known_kind term.1.at halves.0.0 (kind_with (halves.0.0 % 256))
  Ok (record { term = term.0; kind = kind; size = halves.0.1 }, halves.1)

-- this many heads
unfoldable pub heads_at : ℕ → Unread → Result (List EntryHead × Unread) WordFault
heads_at zero left = Ok ([], left)
heads_at (suc count) left = do
  first ← head_at left
  others ← heads_at count first.1
  Ok (first.0 ∷ others.0, others.1)

-- the entry of a head
unfoldable pub entry_at : EntryHead → Unread → Result (Entry × Unread) WordFault
entry_at head left = do
  bytes ← raw_at head.size left
  Ok (record { term = head.term; kind = kind_value head.kind; bytes = bytes.0 }, bytes.1)

-- the entries of these heads
unfoldable pub contents_at : List EntryHead → Unread → Result (List Entry × Unread) WordFault
contents_at [] left = Ok ([], left)
contents_at (head ∷ heads) left = do
  first ← entry_at head left
  others ← contents_at heads first.1
  Ok (first.0 ∷ others.0, others.1)

-- What a call gave is what reading gives, unless memory ran out.
abbrev pub Yields : {X : Type 0} → Result X WordFault → Result X WordFault → Type 0
Yields reading result = MatchResult result (λ x. reading ≡ Ok x) (λ fault. Fails fault reading)
