-- Whether two texts are the same.
use Rattle.std.specs.Prelude.{ℕ, Bool, List, [], ◌∷◌, ◌+◌, ◌==◌, ◌&&◌, cond, length}

-- at how many places two texts differ, as far as both go
unfoldable pub differing : List ℕ → List ℕ → ℕ
differing [] right = 0
differing (x ∷ left) [] = 0
differing (x ∷ left) (y ∷ right) = cond (x == y) 0 1 + differing left right

-- they have one length and differ nowhere
abbrev pub same_bytes : List ℕ → List ℕ → Bool
same_bytes left right = (length left == length right) && (differing left right == 0)
