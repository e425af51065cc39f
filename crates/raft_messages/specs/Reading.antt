-- Reading a message, with the first fault that is met: its type and receiver, its items from left to right, the range of its numbers, its end.
use Rattle.std.specs.Prelude.{◌≡◌, ℕ, ◌+◌, ◌==◌, nat_le, Bool, true, false, ◌&&◌, if◌then◌else◌, List, length, Option, Some, None, Result, Ok, Err, MatchResult}
use Rattle.raft_spec.specs.Log.{Entry, LogEnd}
use Rattle.wire_words.specs.declared.fault.WordFault.{WordFault}
use Rattle.wire_words.specs.declared.fault.WordFault.TheVariants as word_faults
use Rattle.wire_words.specs.declared.message.Message.{Message}
use Rattle.wire_words.specs.declared.value.Dialect.TheVariants.{Exact}
use Rattle.wire_words.specs.Reading.{◌>>=◌, Unread, unread, word_at, blob_at}
use Rattle.raft_messages.specs.declared.fault.PeerFault.{PeerFault}
use Rattle.raft_messages.specs.declared.fault.PeerFault.TheVariants.{Kind, Word, Range, Tail, NoMemory}
use Rattle.raft_messages.specs.declared.kind.MessageKind.{MessageKind}
use Rattle.raft_messages.specs.declared.kind.MessageKind.TheVariants as kinds
use Rattle.raft_messages.specs.declared.message.MessageBody.TheVariants.{AskVote, Vote, Append, Ack, Install, TimeoutNow}
use Rattle.raft_messages.specs.declared.message.RaftMessage.{RaftMessage}
use Rattle.raft_messages.specs.declared.items.UncheckedBody.{UncheckedBody}
use Rattle.raft_messages.specs.Entries.{heads_at, contents_at}
use Rattle.raft_messages.specs.Messages.{numbers_fit}

-- the fault of a message, if an item has this one
abbrev pub of_word : WordFault → PeerFault
of_word word_faults.NoMemory = NoMemory
of_word fault = Word fault

abbrev pub in_message : {X : Type 0} → Result X WordFault → Result X PeerFault
in_message (Ok x) = Ok x
in_message (Err fault) = Err (of_word fault)

-- the type of message that a number represents
abbrev pub message_kind : ℕ → Option MessageKind
message_kind n =
    if n == 1 then Some kinds.AskVote else if n == 2 then Some kinds.Vote else if n == 3 then Some kinds.Append
    else if n == 4 then Some kinds.Ack else if n == 5 then Some kinds.Install else if n == 6 then Some kinds.TimeoutNow else None

-- ---- the items, from left to right

-- a place of a log
unfoldable pub log_end_at : Unread → Result (LogEnd × Unread) WordFault
log_end_at left = do
  index ← word_at left
  term ← word_at index.1
  Ok (record { index = index.0; term = term.0 }, term.1)

-- entries: their number, their heads, what they say
unfoldable pub entries_at : Unread → Result (List Entry × Unread) WordFault
entries_at left = do
  count ← word_at left
  heads ← heads_at count.0 count.1
  contents_at heads.0 heads.1

unfoldable pub ask_vote_at : Bool → Unread → Result (UncheckedBody × Unread) WordFault
ask_vote_at transfer left = do
  last ← log_end_at left
  Ok (record { what = AskVote last.0 transfer; flag_fits = true }, last.1)

unfoldable pub vote_at : Unread → Result (UncheckedBody × Unread) WordFault
vote_at left = do
  granted ← word_at left
  Ok (record { what = Vote (granted.0 == 1); flag_fits = nat_le granted.0 1 }, granted.1)

unfoldable pub append_at : Unread → Result (UncheckedBody × Unread) WordFault
append_at left = do
  prev ← log_end_at left
  commit ← word_at prev.1
  entries ← entries_at commit.1
  Ok (record { what = Append prev.0 commit.0 entries.0; flag_fits = true }, entries.1)

unfoldable pub ack_at : Unread → Result (UncheckedBody × Unread) WordFault
ack_at left = do
  good ← word_at left
  index ← word_at good.1
  Ok (record { what = Ack (good.0 == 1) index.0; flag_fits = nat_le good.0 1 }, index.1)

unfoldable pub install_at : Unread → Result (UncheckedBody × Unread) WordFault
install_at left = do
  last ← log_end_at left
  bytes ← blob_at Exact last.1
  Ok (record { what = Install (record { index = last.0.index; term = last.0.term; bytes = bytes.0 }); flag_fits = true }, bytes.1)

-- what a message of this type says, with the mark or without
abbrev pub said_at : MessageKind → Bool → Unread → Result (UncheckedBody × Unread) WordFault
said_at kinds.AskVote mark left = ask_vote_at mark left
said_at kinds.Vote mark left = vote_at left
said_at kinds.Append mark left = append_at left
said_at kinds.Ack mark left = ack_at left
said_at kinds.Install mark left = install_at left
said_at kinds.TimeoutNow mark left = Ok (record { what = TimeoutNow; flag_fits = true }, left)

-- the message to this node, of a type: the sender, the term, what it says, and whether a flag in it is 0 or 1
unfoldable pub items_at : ℕ → MessageKind → Bool → Unread → Result ((RaftMessage × Bool) × Unread) WordFault
items_at to kind mark left = do
  from ← word_at left
  term ← word_at from.1
  said ← said_at kind mark term.1
  Ok ((record { from = from.0; to = to; term = term.0; what = said.0.what }, said.0.flag_fits), said.1)

-- ---- the whole

-- what was read, if its numbers are in range and nothing is left
abbrev pub ended : (RaftMessage × Bool) × Unread → Result RaftMessage PeerFault
ended x =
    if x.0.1 && numbers_fit x.0.0 then (if length x.1.bytes == 0 then Ok x.0.0 else Err Tail)
    else Err Range

-- a message of this type may have the mark
abbrev pub may_mark : MessageKind → Bool
may_mark kinds.AskVote = true
may_mark kinds.Vote = false
may_mark kinds.Append = false
may_mark kinds.Ack = false
may_mark kinds.Install = false
may_mark kinds.TimeoutNow = false

-- whether a message to this node has the mark, by its type and its schema byte; nothing if it is for another node
abbrev pub mark_in : ℕ → MessageKind → ℕ → Option Bool
mark_in to kind schema =
    if nat_le to 127 then (if schema == to then Some false else if (schema == to + 128) && may_mark kind then Some true else None)
    else None

abbrev pub body_in : ℕ → MessageKind → Option Bool → Message → Result RaftMessage PeerFault
body_in to kind None m = Err Kind
body_in to kind (Some mark) m = in_message (items_at to kind mark (unread m.body)) >>= ended

abbrev pub message_in : ℕ → Option MessageKind → Message → Result RaftMessage PeerFault
message_in to None m = Err Kind
message_in to (Some kind) m = body_in to kind (mark_in to kind m.schema) m

-- the message to a node, or the first fault
unfoldable pub peer_message_of : ℕ → Message → Result RaftMessage PeerFault
peer_message_of to m = message_in to (message_kind m.kind) m

-- A fault is the one that reading gives, unless memory ran out.
abbrev pub Fails : {X : Type 0} → PeerFault → Result X PeerFault → Type 0
Fails NoMemory reading = Unit {0}
Fails fault reading = reading ≡ Err fault

-- What a call gave is what reading gives, unless memory ran out.
abbrev pub Gives : {X : Type 0} → Result X PeerFault → Result X PeerFault → Type 0
Gives reading result = MatchResult result (λ x. reading ≡ Ok x) (λ fault. Fails fault reading)
