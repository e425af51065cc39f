-- What the calls of a stream move, if the stream reports its bytes.
use Rattle.std.specs.Prelude.{◌≤◌, ◌<◌, ℕ, List, Option, Some, None, length, take}
use Rattle.std.specs.Io.KnownBytes.{Appends, Consumes, Keeps}
use Rattle.serve_places.specs.declared.stream.ReadOutcome.{ReadOutcome}
use Rattle.serve_places.specs.declared.stream.ReadOutcome.TheVariants.{Bytes, Nothing, Ended}

-- the first n bytes that were left are at the front of the buffer, and these are one at least
pub record MovesBytes (old new : Option (List ℕ)) (buffer : List ℕ) (n : ℕ) : Type 0 where
  pub fits : n ≤ length buffer
  pub some : 0 < n
  pub moved : Consumes old new (take n buffer)

abbrev pub ReadsBytes : Option (List ℕ) → Option (List ℕ) → List ℕ → ReadOutcome → Type 0
ReadsBytes old new buffer (Bytes n) = MovesBytes old new buffer n
ReadsBytes old new buffer Nothing = Keeps old new
ReadsBytes old new buffer Ended = Keeps old new

-- the first n bytes were appended to what was written
pub record TakesBytes (old new : Option (List ℕ)) (bytes : List ℕ) (n : ℕ) : Type 0 where
  pub fits : n ≤ length bytes
  pub appended : Appends old new (take n bytes)

abbrev pub WritesBytes : Option (List ℕ) → Option (List ℕ) → List ℕ → Option ℕ → Type 0
WritesBytes old new bytes None = Unit {0}
WritesBytes old new bytes (Some n) = TakesBytes old new bytes n
