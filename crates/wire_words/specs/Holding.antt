-- What a splitter holds between two pieces.
use Rattle.std.specs.Prelude.{◌≡◌, ◌<◌, ◌≤◌, ◌++◌, ℕ, false, List, [], length, take, Option, Some, None, Result, MatchResult}
use Rattle.std.specs.declared.alloc.AllocError.{AllocError}
use Rattle.wire_words.specs.declared.message.Message.{Message}
use Rattle.wire_words.specs.declared.splitter.SplitFault.{SplitFault}
use Rattle.wire_words.specs.declared.splitter.SplitFault.TheVariants.{NoMemory}
use Rattle.wire_words.specs.declared.unfinished.Unfinished.{Unfinished}
use Rattle.wire_words.specs.declared.unfinished.Standing.{Standing}
use Rattle.wire_words.specs.declared.unfinished.Standing.TheVariants as standings
use Rattle.wire_words.specs.Stream.{Front, Part, Long, Whole, Stream, front, message_with, end_with}

-- what is at the front, without where it lies in memory
abbrev pub front_of : Standing → Front
front_of standings.Part = Part
front_of (standings.Long words) = Long words
front_of (standings.Whole header body rest) = Whole (message_with header body.now) rest.now

-- the unread bytes
abbrev pub held_bytes : Unfinished → List ℕ
held_bytes u = take u.head_len u.head ++ u.body.items

-- The head is as long as it says; a body begins after a whole head, and after the version word.
pub record IsHead (u : Unfinished) : Type 0 where
  pub width : length u.head ≡ 8
  pub short : u.head_len ≤ 8
  pub head_first : u.head_len < 8 → u.body.items ≡ []

-- What is held is no whole message, and within the version word fewer than eight bytes.
pub record Holds (limit : ℕ) (u : Unfinished) : Type 0 where
  pub head : IsHead u
  pub part : front limit (held_bytes u) ≡ Part
  pub opening : u.begun ≡ false → u.head_len < 8

-- a stream breaks by its version or by a header, and never by out of memory
abbrev pub IsOfStream : Option SplitFault → Type 0
IsOfStream None = Unit {0}
IsOfStream (Some NoMemory) = ⊥
IsOfStream (Some fault) = Unit {0}

-- A step gave the messages and the end of this stream, and holds what is unread. Out of memory left it as it was.
abbrev pub Leads : ℕ → Unfinished → Unfinished → List Message → Stream → Result (Option SplitFault) AllocError → Type 0
Leads limit old new messages stream result =
    MatchResult result
    (λ fault. (stream ≡ record { messages = messages; end = end_with fault new.begun (held_bytes new) }) × Holds limit new × IsOfStream fault)
    (λ _. (new.begun ≡ old.begun) × (held_bytes new ≡ held_bytes old) × Holds limit new)
