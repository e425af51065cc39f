-- What a call of a writer leaves.
use Rattle.std.specs.Prelude.{◌≡◌, ℕ, List, ◌++◌, Result, MatchResult}
use Rattle.std.specs.declared.alloc.AllocError.{AllocError}

-- Ok appended these bytes, and an Err left what was written as it was.
abbrev pub AppendsOrKeeps : List ℕ → List ℕ → List ℕ → Result Unit AllocError → Type 0
AppendsOrKeeps old new bytes result = MatchResult result (λ _. new ≡ old ++ bytes) (λ _. new ≡ old)
