-- A stream: the version word, and messages one after the other, cut anywhere.
use Rattle.std.specs.Prelude.{◌≡◌, ◌==◌, ◌*◌, ℕ, zero, suc, List, [], ◌∷◌, ◌++◌, length, take, drop, Result, Ok, Err, Bool, true, false, Option, Some, None, nat_lt, if◌then◌else◌, MatchResult}
use Rattle.byteorder.specs.Endian.{little_bytes, little_number}
use Rattle.wire_words.specs.declared.message.Message.{Message}
use Rattle.wire_words.specs.declared.message.Header.{Header}
use Rattle.wire_words.specs.declared.splitter.SplitFault.{SplitFault}
use Rattle.wire_words.specs.declared.splitter.SplitFault.TheVariants.{Version, TooLong, NoMemory}
use Rattle.wire_words.specs.Message.{header_of}

-- What is at the front of bytes that may end anywhere: a part of a message, a header that states too many words,
-- or a message with what follows it.
pub data Front : Type 0 where
  Part : Front
  Long : ℕ → Front
  Whole : Message → List ℕ → Front

-- how many bytes the body has that a header states
abbrev pub body_size : Header → ℕ
body_size header = 8 * header.words

abbrev pub message_with : Header → List ℕ → Message
message_with header body = record { kind = header.kind; schema = header.schema; body = body }

-- what follows this header
abbrev pub front_with : ℕ → Header → List ℕ → Front
front_with limit header behind =
    if nat_lt limit header.words then Long header.words
    else if nat_lt (length behind) (body_size header) then Part
    else Whole (message_with header (take (body_size header) behind)) (drop (body_size header) behind)

-- the front, if a message may have this many words
unfoldable pub front : ℕ → List ℕ → Front
front limit bytes = if nat_lt (length bytes) 8 then Part else front_with limit (header_of bytes) (drop 8 bytes)

-- How a stream ends so far: within its version word, with a part of a message that is unread, or at a fault, after which
-- nothing is read.
pub data End : Type 0 where
  Opening : List ℕ → End
  Rest : List ℕ → End
  Broken : SplitFault → End

-- the whole messages of a stream, and its end
pub record Stream : Type 0 where
  pub messages : List Message
  pub end : End

abbrev pub ended : End → Stream
ended end = record { messages = []; end = end }

-- these messages and then the stream
abbrev pub after_messages : List Message → Stream → Stream
after_messages messages stream = record { messages = messages ++ stream.messages; end = stream.end }

abbrev pub one_before : Message → Stream → Stream
one_before message stream = record { messages = message ∷ stream.messages; end = stream.end }

-- the front of the bytes, and if that is a message what the bytes after it are
abbrev pub taken : List ℕ → Front → (List ℕ → Stream) → Stream
taken bytes Part behind = ended (Rest bytes)
taken bytes (Long words) behind = ended (Broken (TooLong words))
taken bytes (Whole message rest) behind = one_before message (behind rest)

-- what is left of the bytes after at most this many messages were taken off their front, and these messages
abbrev pub taking : ℕ → ℕ → List ℕ → Stream
taking zero limit bytes = ended (Rest bytes)
taking (suc n) limit bytes = taken bytes (front limit bytes) (taking n limit)

-- the stream that these bytes are after a version word: each message has eight bytes or more
unfoldable pub messages_in : ℕ → List ℕ → Stream
messages_in limit bytes = taking (length bytes) limit bytes

-- the stream of which the first word is this number
abbrev pub versioned : ℕ → ℕ → List ℕ → Stream
versioned limit version behind = if version == 1 then messages_in limit behind else ended (Broken (Version version))

-- the stream that these bytes are, if a message may have this many words
unfoldable pub stream : ℕ → List ℕ → Stream
stream limit bytes =
    if nat_lt (length bytes) 8 then ended (Opening bytes)
    else versioned limit (little_number 8 bytes) (drop 8 bytes)

-- what these bytes add to a stream that ends so
abbrev pub going_on : ℕ → End → List ℕ → Stream
going_on limit (Opening bytes) piece = stream limit (bytes ++ piece)
going_on limit (Rest bytes) piece = messages_in limit (bytes ++ piece)
going_on limit (Broken fault) piece = ended (Broken fault)

-- the bytes that are unread
abbrev pub unread_bytes : End → List ℕ
unread_bytes (Opening bytes) = bytes
unread_bytes (Rest bytes) = bytes
unread_bytes (Broken fault) = []

-- the fault at which a stream is at its end
abbrev pub fault_in : End → Option SplitFault
fault_in (Opening bytes) = None
fault_in (Rest bytes) = None
fault_in (Broken fault) = Some fault

-- What a splitter represents: how many words a message may have, and how the stream ends so far.
pub record Splitting : Type 0 where
  pub limit : ℕ
  pub end : End

-- how many words a message of a client or to a client may have
abbrev pub client_limit : ℕ
client_limit = 2097152

-- and one between nodes
abbrev pub peer_limit : ℕ
peer_limit = 33554432

-- a splitter that was fed these bytes
abbrev pub fed : ℕ → List ℕ → Splitting
fed limit bytes = record { limit = limit; end = (stream limit bytes).end }

-- the version word 1
abbrev pub version_word : List ℕ
version_word = little_bytes 8 1

-- the messages, or if there are none the fault at the end
abbrev pub answer_of : List Message → End → Result (List Message) SplitFault
answer_of [] (Broken fault) = Err fault
answer_of messages end = Ok messages

-- what a feed answers that adds this to the stream
abbrev pub answer : Stream → Result (List Message) SplitFault
answer stream = answer_of stream.messages stream.end

-- the messages were answered, or if there are none the fault
abbrev pub Answers : {X : Type 0} → (X → List Message) → List Message → Option SplitFault → Result X SplitFault → Type 0
Answers view messages fault result =
    MatchResult result
    (λ x. (view x ≡ messages) × (messages ≡ [] → fault ≡ None))
    (λ f. (messages ≡ []) × (fault ≡ Some f))

-- A feed failed with this fault: out of memory leaves the splitter as it was, and any other fault is the answer.
abbrev pub FeedFails : SplitFault → Splitting → Splitting → Stream → Type 0
FeedFails NoMemory old new added = new ≡ old
FeedFails fault old new added = (answer added ≡ Err fault) × (new ≡ record { limit = old.limit; end = added.end })

-- A feed gave what this adds to the stream, and left the splitter at its end.
abbrev pub Feeds : {X : Type 0} → (X → List Message) → Splitting → Splitting → Stream → Result X SplitFault → Type 0
Feeds view old new added result =
    MatchResult result
    (λ messages. (answer added ≡ Ok (view messages)) × (new ≡ record { limit = old.limit; end = added.end }))
    (λ fault. FeedFails fault old new added)

-- The messages of these bytes are those and the given ones, and the splitter was fed them.
pub record Adds (limit : ℕ) (before after : List ℕ) (messages : List Message) (new : Splitting) : Type 0 where
  pub messages_follow : (stream limit after).messages ≡ (stream limit before).messages ++ messages
  pub stands : new ≡ fed limit after

-- With this fault a feed failed: out of memory leaves the splitter as it was; else the fault is the end of these bytes,
-- which have no more messages than those before.
abbrev pub BreaksWith : SplitFault → ℕ → List ℕ → List ℕ → Splitting → Splitting → Type 0
BreaksWith NoMemory limit before after old new = new ≡ old
BreaksWith fault limit before after old new =
    (stream limit after ≡ record { messages = (stream limit before).messages; end = Broken fault }) × (new ≡ fed limit after)

-- how a splitter's stream ends: by its fault, else with these bytes unread, within the version word or after it
abbrev pub end_with : Option SplitFault → Bool → List ℕ → End
end_with (Some fault) begun bytes = Broken fault
end_with None true bytes = Rest bytes
end_with None false bytes = Opening bytes
