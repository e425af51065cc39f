-- A word against a name.
use Rattle.std.proofs.Common.{◌≡◌, ℕ, Bool, List, map, subst}
use Rattle.std.specs.Bool.{Decides}
use Rattle.std.specs.Char.{to_ascii_lowercase}
use Rattle.std.specs.Str.{str_eq_ignore_ascii_case}
use Rattle.std.proofs.lemmas.Bool.Decides.{same_from_decides}
use Rattle.std.proofs.lemmas.Slice.Eq.{bytes_eq-Decides}

pub test_is : (b : Bool) (word name other : List ℕ) → other ≡ name → Decides b (map to_ascii_lowercase word ≡ map to_ascii_lowercase other) → b ≡ str_eq_ignore_ascii_case word name
test_is b word name other e h =
    let there : Decides b (map to_ascii_lowercase word ≡ map to_ascii_lowercase name) = subst (λ (xs : List ℕ). Decides b (map to_ascii_lowercase word ≡ map to_ascii_lowercase xs)) e h in
    same_from_decides b (str_eq_ignore_ascii_case word name) there (bytes_eq-Decides (map to_ascii_lowercase word) (map to_ascii_lowercase name))
