-- Texts that are split at a word or a space.
use Rattle.std.specs.Prelude.{◌==◌, ℕ, List, length, take, drop, position, Option, Some, None, if◌then◌else◌}
use Rattle.std.specs.Option.{option_map}
use Rattle.std.specs.Str.{bytes_eq}

-- what is before and after the first space
unfoldable pub halves : List ℕ → Option (List ℕ × List ℕ)
halves text = option_map (λ i. (take i text, drop 1 (drop i text))) (position (λ b. b == 32) text)

-- what follows a word, where the text begins so
abbrev pub behind : List ℕ → List ℕ → Option (List ℕ)
behind word text = if bytes_eq (take (length word) text) word then Some (drop (length word) text) else None

-- what is made of the first text that is there
abbrev pub or_else : {A : Type 0} → Option (List ℕ) → (List ℕ → Option A) → Option A → Option A
or_else None f other = other
or_else (Some text) f other = f text
