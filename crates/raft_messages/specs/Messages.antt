-- The table of messages: the type of each and the fields of its body; which numbers a message may carry; the rules' message.
use Rattle.std.specs.Prelude.{◌≡◌, ℕ, ◌+◌, ◌<◌, ◌≤◌, ◌^◌, Bool, true, false, cond, nat_le, ◌&&◌, List, [], ◌∷◌, ◌++◌, length}
use Rattle.raft_spec.specs.Log.{Entry, LogEnd}
use Rattle.raft_spec.specs.Node as rules
use Rattle.raft_spec.specs.Receiving.{fits_the_wire, what_in_range}
use Rattle.raft_spec.specs.Compaction.{compacted}
use Rattle.wire_words.specs.declared.message.Message.{Message}
use Rattle.wire_words.specs.Items.{word, blob}
use Rattle.wire_words.specs.Message.{message, IsBody}
use Rattle.raft_messages.specs.declared.message.MessageBody.{MessageBody}
use Rattle.raft_messages.specs.declared.message.MessageBody.TheVariants.{AskVote, Vote, Append, Ack, Install, TimeoutNow}
use Rattle.raft_messages.specs.declared.message.Snapshot.{Snapshot}
use Rattle.raft_messages.specs.declared.message.RaftMessage.{RaftMessage}
use Rattle.raft_messages.specs.Entries.{heads_bytes, contents_bytes, HaveHeads}

-- ---- the rules' message

-- the place that a snapshot represents
abbrev pub snapshot_end : Snapshot → LogEnd
snapshot_end s = record { index = s.index; term = s.term }

-- what the message says in the rules: a snapshot represents a front of a log, of which its end alone is known
abbrev pub what_value : MessageBody → rules.What
what_value (AskVote last transfer) = rules.AskVote last transfer
what_value (Vote granted) = rules.Vote granted
what_value (Append prev commit entries) = rules.Append prev commit entries
what_value (Ack good index) = rules.Ack good index
what_value (Install snapshot) = rules.Install (snapshot_end snapshot) (compacted (snapshot_end snapshot) snapshot.index)
what_value TimeoutNow = rules.TimeoutNow

abbrev pub message_value : RaftMessage → rules.Message
message_value m = record { from = m.from; to = m.to; term = m.term; what = what_value m.what }

-- No number is out of range: terms and indexes are at most 4,294,967,295, and there are at most 16 entries.
abbrev pub numbers_fit : RaftMessage → Bool
numbers_fit m = fits_the_wire m.term && what_in_range (what_value m.what)

-- ---- the table

-- a field of a body: a number, entries after their number, or bytes after their number
pub data Field : Type 0 where
  Word : ℕ → Field
  Entries : List Entry → Field
  Blob : List ℕ → Field

-- 1 for yes, 0 for no
abbrev pub flag : Bool → ℕ
flag true = 1
flag false = 0

-- the number of a message's type
abbrev pub what_number : MessageBody → ℕ
what_number (AskVote last transfer) = 1
what_number (Vote granted) = 2
what_number (Append prev commit entries) = 3
what_number (Ack good index) = 4
what_number (Install snapshot) = 5
what_number TimeoutNow = 6

-- what follows the sender and the term
abbrev pub what_fields : MessageBody → List Field
what_fields (AskVote last transfer) = Word last.index ∷ Word last.term ∷ []
what_fields (Vote granted) = Word (flag granted) ∷ []
what_fields (Append prev commit entries) = Word prev.index ∷ Word prev.term ∷ Word commit ∷ Entries entries ∷ []
what_fields (Ack good index) = Word (flag good) ∷ Word index ∷ []
what_fields (Install snapshot) = Word snapshot.index ∷ Word snapshot.term ∷ Blob snapshot.bytes ∷ []
what_fields TimeoutNow = []

-- the sender, the term, and what the message says
abbrev pub message_fields : RaftMessage → List Field
message_fields m = Word m.from ∷ Word m.term ∷ what_fields m.what

-- the bytes of a field: entries are their number, their heads, and what they say
abbrev pub field_bytes : Field → List ℕ
field_bytes (Word n) = word n
field_bytes (Entries es) = word (length es) ++ (heads_bytes es ++ contents_bytes es)
field_bytes (Blob bytes) = blob bytes

-- the fields one after the other
abbrev pub fields_bytes : List Field → List ℕ
fields_bytes [] = []
fields_bytes (field ∷ fields) = field_bytes field ++ fields_bytes fields

-- what the wire can hold: numbers of 64 bits; of entries a size of 32 bits each
abbrev pub Holds : Field → Type 0
Holds (Word n) = n < 2 ^ 64
Holds (Entries es) = (length es < 2 ^ 64) × HaveHeads es
Holds (Blob bytes) = length bytes < 2 ^ 64

abbrev pub AllHold : List Field → Type 0
AllHold [] = Unit {0}
AllHold (field ∷ fields) = Holds field × AllHold fields

-- the body of a message
abbrev pub body_bytes : RaftMessage → List ℕ
body_bytes m = fields_bytes (message_fields m)

-- the mark of an AskVote of a node to which a leader handed its leadership
abbrev pub what_mark : MessageBody → ℕ
what_mark (AskVote last true) = 128
what_mark (AskVote last false) = 0
what_mark (Vote granted) = 0
what_mark (Append prev commit entries) = 0
what_mark (Ack good index) = 0
what_mark (Install snapshot) = 0
what_mark TimeoutNow = 0

-- the schema byte: the receiver's id with the mark; 0 for an id above 127, whose messages no node reads
abbrev pub message_schema : RaftMessage → ℕ
message_schema m = cond (nat_le m.to 127) (m.to + what_mark m.what) 0

-- the one encoding of a message
abbrev pub message_bytes : RaftMessage → List ℕ
message_bytes m = message (what_number m.what) (message_schema m) (body_bytes m)

-- The message of the wire is this one: its type, the receiver with the mark and the fields, and no number is out of range.
pub record Reads (m : Message) (peer : RaftMessage) : Type 0 where
  pub kind : m.kind ≡ what_number peer.what
  pub schema : m.schema ≡ peer.to + what_mark peer.what
  pub receiver : peer.to ≤ 127
  pub holds : AllHold (message_fields peer)
  pub body : m.body ≡ body_bytes peer
  pub in_range : numbers_fit peer ≡ true

-- The bytes encode the message: it is encoded so, and no number is out of range.
pub record Writes (peer : RaftMessage) (bytes : List ℕ) : Type 0 where
  pub receiver : peer.to ≤ 127
  pub holds : AllHold (message_fields peer)
  pub whole : IsBody (body_bytes peer)
  pub parts : bytes ≡ message_bytes peer
  pub in_range : numbers_fit peer ≡ true
