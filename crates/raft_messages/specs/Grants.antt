-- Ids of nodes whose votes are counted.
use Rattle.std.specs.Prelude.{◌≡◌, ℕ, true, false, List, [], ◌∷◌}
use Rattle.raft_spec.specs.Node.{among}

-- No id occurs twice.
abbrev pub AreDistinct : List ℕ → Type 0
AreDistinct [] = Unit {0}
AreDistinct (x ∷ xs) = (among xs x ≡ false) × AreDistinct xs

-- Each id of the first list is one of the second.
abbrev pub AreAmong : List ℕ → List ℕ → Type 0
AreAmong xs ids = (x : ℕ) → among xs x ≡ true → among ids x ≡ true
