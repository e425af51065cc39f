-- Names of databases.
use Rattle.std.specs.Prelude.{◌≡◌, ◌==◌, ℕ, ◌<◌, ◌≤◌, Bool, false, List, length}
use Rattle.std.specs.List.{list_any}

-- whether some byte is NUL
abbrev pub has_nul : List ℕ → Bool
has_nul bytes = list_any (λ byte. byte == 0) bytes

-- the bytes of a name: 1 to 255 of them, none of them NUL
pub record IsName (bytes : List ℕ) : Type 0 where
  pub not_empty : 0 < length bytes
  pub short : length bytes ≤ 255
  pub no_nul : has_nul bytes ≡ false
