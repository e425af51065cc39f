-- What a state machine holds.
use Rattle.std.specs.Prelude.{ℕ, List}
use Rattle.database_state.specs.Files.{Content}

-- its databases, by the bytes of their names, each with its files and the pages that are pending; and how many commands of
-- the list it has applied
pub record Holding : Type 0 where
  pub databases : List Content
  pub applied : ℕ
