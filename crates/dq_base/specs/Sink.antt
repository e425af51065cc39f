-- What a write does to the bytes that a sink holds, if they are known.
use Rattle.std.specs.Prelude.{ℕ, List, ◌≡◌, ◌++◌, Option, Result, MatchResult}
use Rattle.std.specs.Io.KnownBytes.{Appends}
use Rattle.dq_base.specs.declared.faults.Failed.{Failed}

-- a front of these bytes was appended
abbrev pub AppendsFront : Option (List ℕ) → Option (List ℕ) → List ℕ → Type 0
AppendsFront old new bytes = (front rest : List ℕ) × (front ++ rest ≡ bytes) × Appends old new front

-- Ok appends all of the bytes, and an Err a front of them
abbrev pub WriteAppends : Option (List ℕ) → Option (List ℕ) → List ℕ → Result Unit Failed → Type 0
WriteAppends old new bytes result =
    MatchResult result (λ _. Appends old new bytes) (λ _. AppendsFront old new bytes)
