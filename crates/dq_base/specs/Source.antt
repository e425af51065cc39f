-- What a read does to the bytes that a source has left, if they are known.
use Rattle.std.specs.Prelude.{◌≡◌, ◌<◌, ◌≤◌, ℕ, List, Option, length, take, Result, MatchResult}
use Rattle.std.specs.Io.KnownBytes.{Consumes, IsAtEnd, Keeps}
use Rattle.dq_base.specs.declared.faults.Failed.{Failed}

-- The first n bytes that were left are at the front of the buffer; 0 at a buffer with room is the end.
pub record Moves (old new : Option (List ℕ)) (buffer : List ℕ) (n : ℕ) : Type 0 where
  pub fits : n ≤ length buffer
  pub moved : Consumes old new (take n buffer)
  pub ended : n ≡ 0 → 0 < length buffer → IsAtEnd new

-- what a read into this buffer moved, and nothing at an Err
abbrev pub ReadMoves : Option (List ℕ) → Option (List ℕ) → List ℕ → Result ℕ Failed → Type 0
ReadMoves old new buffer result = MatchResult result (Moves old new buffer) (λ _. Keeps old new)
