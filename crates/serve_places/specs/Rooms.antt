-- How much waits to be written.
use Rattle.std.specs.Prelude.{◌+◌, ℕ, List, [], ◌∷◌, length}

-- what waits: each reply counts for its bytes and 256 more
unfoldable pub waiting_bytes : List (List ℕ) → ℕ
waiting_bytes [] = 0
waiting_bytes (reply ∷ replies) = length reply + 256 + waiting_bytes replies

-- what all sockets have of the common room
unfoldable pub common_bytes : List ℕ → ℕ
common_bytes [] = 0
common_bytes (lent ∷ others) = lent + common_bytes others
