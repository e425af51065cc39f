-- Two logs beside one database file that represent the same pages.
use Rattle.std.specs.Prelude.{◌≡◌, ℕ, ◌<◌, List, length}
use Rattle.sqlite_wal.specs.Format.{commit_size, content}
use Rattle.sqlite_wal.specs.Recovery.{Image, AreFramesOf, frame}
use Rattle.sqlite_trees.specs.Tree.{Trees}
use Rattle.sqlite.specs.Files.{HoldsDatabase}

-- what the one image holds, the other holds too
abbrev pub HoldAlike : Image → Image → Type 0
HoldAlike one other = (db : Trees) → HoldsDatabase one db → HoldsDatabase other db

-- frame i has the same count of pages and the same bytes of its page in both logs
abbrev pub IsAlikeAt : ℕ → List ℕ → List ℕ → ℕ → Type 0
IsAlikeAt page_size one other i =
    (commit_size (frame page_size one i) ≡ commit_size (frame page_size other i)) × (content (frame page_size one i) ≡ content (frame page_size other i))

-- up to its last commit each log has a frame for each of these pages, and the frames are alike
pub record AreAlike (page_size : ℕ) (one other : List ℕ) : Type 0 where
  pub numbers : List ℕ
  pub first : AreFramesOf page_size one numbers
  pub second : AreFramesOf page_size other numbers
  pub alike : (i : ℕ) → i < length numbers → IsAlikeAt page_size one other i
