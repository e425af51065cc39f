-- A client's connection: how its stream ends so far, the messages that wait, and for how many bytes there is room.
use Rattle.std.specs.Option.{option_or}
use Rattle.std.specs.Prelude.{◌≡◌, ◌+◌, ◌-◌, ◌*◌, ◌^◌, ◌≤◌, min, ℕ, Bool, true, false, nat_lt, List, [], ◌∷◌, ◌++◌, length, take, sum_by, Option, Some, None, if◌then◌else◌, MatchOption}
use Rattle.wire_words.specs.declared.message.Message.{Message}
use Rattle.wire_words.specs.declared.splitter.SplitFault.{SplitFault}
use Rattle.wire_words.specs.declared.splitter.SplitFault.TheVariants as faults
use Rattle.wire_words.specs.Stream.{End, Opening, Rest, Broken, Stream, Splitting, stream, fed, going_on, client_limit, peer_limit, unread_bytes, fault_in}
use Rattle.client_connection.specs.declared.connection.CloseReason.{CloseReason}
use Rattle.client_connection.specs.declared.connection.CloseReason.TheVariants as reasons

-- how the stream ends so far, the whole messages of it that were not taken, in order, and whether a byte came for which there
-- was no room
pub record Conn : Type 0 where
  pub end : End
  pub waiting : List Message
  pub full : Bool

-- a connection of which nothing has come
abbrev pub opened : Conn
opened = record { end = (stream client_limit []).end; waiting = []; full = false }

-- how many bytes a message has
abbrev pub message_size : Message → ℕ
message_size m = 8 + length m.body

-- how many bytes a connection holds: those that are unread, and header and body of each message that waits
unfoldable pub held : Conn → ℕ
held c = length (unread_bytes c.end) + sum_by message_size c.waiting

-- about how many bytes of memory that takes: 128 more for each message that waits; as a number of 64 bits
abbrev pub footprint : Conn → ℕ
footprint c = min (held c + 128 * length c.waiting) (2 ^ 64 - 1)

-- how many bytes of what is unread are no part of a message: those of the version word, until it is there whole
abbrev pub version_room : End → ℕ
version_room (Opening bytes) = 8
version_room (Rest bytes) = 0
version_room (Broken fault) = 0

-- for how many bytes there is room: a connection holds up to 32 MiB
unfoldable pub room : Conn → ℕ
room c = 33554432 + version_room c.end - held c

-- the number of a reason
abbrev pub reason_number : CloseReason → ℕ
reason_number reasons.Version = 1
reason_number reasons.TooLong = 2
reason_number reasons.Limit = 3
reason_number reasons.Peer = 5

-- the reason of a fault of the stream
abbrev pub reason_for : SplitFault → Option CloseReason
reason_for (faults.Version word) = Some reasons.Version
reason_for (faults.TooLong words) = Some reasons.TooLong
reason_for faults.NoMemory = None

abbrev pub fault_reason : Option SplitFault → Option CloseReason
fault_reason None = None
fault_reason (Some fault) = reason_for fault

-- the reason in a stream that ends so, if there is one
abbrev pub stream_reason : End → Option CloseReason
stream_reason end = fault_reason (fault_in end)

-- the reason of a byte for which there was no room
abbrev pub limit_reason : Bool → Option CloseReason
limit_reason true = Some reasons.Limit
limit_reason false = None

-- why a connection closes, if it does: what comes first in its bytes
abbrev pub reason_of : Conn → Option CloseReason
reason_of c = option_or (stream_reason c.end) (limit_reason c.full)

-- what this adds to a connection, and whether it has no room for more
abbrev pub with_more : Conn → Stream → Bool → Conn
with_more c more full = record { end = more.end; waiting = c.waiting ++ more.messages; full = full }

-- what is read of a piece: as much as there is room for, and nothing once a byte had none
abbrev pub read_of : Conn → List ℕ → List ℕ
read_of c piece = if c.full then [] else take (room c) piece

-- a connection after a piece of the stream
abbrev pub received : Conn → List ℕ → Conn
received c piece =
    if c.full then c else with_more c (going_on client_limit c.end (take (room c) piece)) (nat_lt (room c) (length piece))

-- a connection that carries a peer's messages after a piece of the stream: any number of bytes may wait
abbrev pub peer_received : Conn → List ℕ → Conn
peer_received c piece = if c.full then c else with_more c (going_on peer_limit c.end piece) false

-- a splitter that was fed a client's stream
pub record IsFed (splitter : Splitting) : Type 0 where
  pub bytes : List ℕ
  pub is : splitter ≡ fed client_limit bytes

-- whether the version word is there whole
abbrev pub is_begun : End → Bool
is_begun (Opening bytes) = false
is_begun (Rest bytes) = true
is_begun (Broken fault) = true

-- What holds of a connection: its splitter was fed a client's stream, its counts are right, and no more is held than may be.
pub record Counts (splitter : Splitting) (waiting : List Message) (begun : Bool) (count : ℕ) : Type 0 where
  pub was_fed : IsFed splitter
  pub begins : begun ≡ is_begun splitter.end
  pub counted : count ≡ sum_by message_size waiting
  pub within : length (unread_bytes splitter.end) + count ≤ 33554432 + version_room splitter.end

-- Of these bytes, if a message may have this many words, this many messages were taken, in order, and the others wait.
pub record HasTakenBy (limit : ℕ) (c : Conn) (bytes : List ℕ) (taken : List Message) : Type 0 where
  pub messages : (stream limit bytes).messages ≡ taken ++ c.waiting
  pub end : (stream limit bytes).end ≡ c.end

-- this holds for a client's stream
abbrev pub HasTaken : Conn → List ℕ → List Message → Type 0
HasTaken c bytes taken = HasTakenBy client_limit c bytes taken

-- and of a peer's
abbrev pub PeerHasTaken : Conn → List ℕ → List Message → Type 0
PeerHasTaken c bytes taken = HasTakenBy peer_limit c bytes taken

-- A call gave the first message that waits, or none if none does.
abbrev pub TakesFirst : Conn → Conn → Option Message → Type 0
TakesFirst old new result =
    MatchOption result ((old.waiting ≡ []) × (new ≡ old)) (λ m. old ≡ record { end = new.end; waiting = m ∷ new.waiting; full = new.full })
