-- The bytes of a connection that were read and not handed on, and the pieces in which they are handed on.
use Rattle.std.specs.Prelude.{◌≡◌, ◌⊎◌, ◌≤◌, ◌+◌, ◌*◌, ◌-◌, ◌==◌, ℕ, Bool, true, leb, ltb, cond, List, [], ◌++◌, length, slice_index, Option, Some, None}
use Rattle.std.specs.Io.KnownBytes.{Consumes}

-- the bytes that were read and not handed on, and how many bytes of the message at their front are to come
pub record Incoming : Type 0 where
  pub bytes : List ℕ
  pub left : ℕ

-- how many words a message has after this header
abbrev pub words_in : List ℕ → ℕ
words_in header = slice_index header 0 + 256 * slice_index header 1 + 65536 * slice_index header 2 + 16777216 * slice_index header 3

-- how many bytes of a message come next: those that its header states, if a header is next
abbrev pub next_size : Incoming → ℕ
next_size now = cond (now.left == 0) (8 + 8 * words_in now.bytes) now.left

-- whether bytes of a message can be handed on: a whole header, or bytes of the message that is under way
abbrev pub has_piece : Incoming → Bool
has_piece now = cond (now.left == 0) (leb 8 (length now.bytes)) (ltb 0 (length now.bytes))

-- a piece is the front of what was read, and bytes of one message at most
pub record IsFront (old new : Incoming) (piece : List ℕ) : Type 0 where
  pub front : old.bytes ≡ piece ++ new.bytes
  pub within : length piece ≤ next_size old
  pub left : new.left ≡ next_size old - length piece

abbrev pub IsFrontIfAny : Incoming → Incoming → Option (List ℕ) → Type 0
IsFrontIfAny old new None = new ≡ old
IsFrontIfAny old new (Some piece) = IsFront old new piece

-- these bytes were read of a stream; of one that is gone nothing is known
abbrev pub ReadsOf : {S : Type 0} → (S → Option (List ℕ)) → Option S → Option S → List ℕ → Type 0
ReadsOf left None now read = read ≡ []
ReadsOf left (Some was) None read = Unit {0}
ReadsOf left (Some was) (Some now) read = Consumes (left was) (left now) read

-- what was held and what was read then is this piece and what is held now
pub record HandsFront {S : Type 0} (left : S → Option (List ℕ)) (was now : Option S) (held held_now piece : List ℕ) : Type 0 where
  pub read : List ℕ
  pub reads : ReadsOf left was now read
  pub front : held ++ read ≡ piece ++ held_now

-- the stream has ended and nothing is held, or what was read is held after what was held before
abbrev pub FillsWith : {S : Type 0} → (S → Option (List ℕ)) → Option S → Option S → List ℕ → List ℕ → Type 0
FillsWith left was now held held_now = ((now ≡ None) × (held_now ≡ [])) ⊎ ((read : List ℕ) × ReadsOf left was now read × (held_now ≡ held ++ read))

-- a piece is taken off, or nothing changes, or the stream has ended
abbrev pub TakesPiece : {S : Type 0} → Option S → Option S → Incoming → Incoming → Option (List ℕ) → Type 0
TakesPiece was now old new None = (now ≡ None) ⊎ ((now ≡ was) × (new ≡ old))
TakesPiece was now old new (Some piece) = (now ≡ was) × (has_piece old ≡ true) × IsFront old new piece

-- the same, if a piece was handed on; nothing is lost without one while the stream is there
abbrev pub HandsFrontIfAny : {S : Type 0} → (S → Option (List ℕ)) → Option S → Option S → List ℕ → List ℕ → Option (List ℕ) → Type 0
HandsFrontIfAny left was None held held_now None = Unit {0}
HandsFrontIfAny left was (Some now) held held_now None = HandsFront left was (Some now) held held_now []
HandsFrontIfAny left was now held held_now (Some piece) = HandsFront left was now held held_now piece
