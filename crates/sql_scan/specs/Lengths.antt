-- How far a token reaches.
use Rattle.std.specs.Prelude.{ℕ, ◌+◌, Bool, not, ◌==◌, ◌&&◌, List, [], ◌∷◌, length, Option, Some, None, unwrap_or, if◌then◌else◌}
use Rattle.std.specs.List.{position}

-- how many bytes from the front on are of this kind
abbrev pub run : (ℕ → Bool) → List ℕ → ℕ
run p bytes = unwrap_or (position (λ b. not (p b)) bytes) (length bytes)

-- one byte more
abbrev pub longer : Option ℕ → Option ℕ
longer None = None
longer (Some n) = Some (n + 1)

-- How many bytes there are after a quote up to the end of what it begins: up to and with the next quote of its kind that isn't
-- doubled. odd says that an odd number of these quotes stands just before.
unfoldable pub quoted : ℕ → Bool → List ℕ → Option ℕ
quoted quote odd [] = if odd then Some 0 else None
quoted quote odd (b ∷ bytes) = if odd && not (b == quote) then Some 0 else longer (quoted quote (b == quote && not odd) bytes)

-- how many bytes there are up to and with the first ]
abbrev pub bracketed : List ℕ → Option ℕ
bracketed bytes = longer (position (λ b. b == 93) bytes)

-- How many bytes there are up to and with the first star and slash. star says that a star stands just before.
unfoldable pub starred : Bool → List ℕ → Option ℕ
starred star [] = None
starred star (b ∷ bytes) = if star && b == 47 then Some 1 else longer (starred (b == 42) bytes)
