-- Of which newest images an engine is informed in advance.
use Rattle.std.specs.Prelude.{◌≡◌, ℕ, ◌==◌, ◌&&◌, Bool, List, Some}
use Rattle.std.specs.Option.{option_map}
use Rattle.dq_base.specs.declared.images.Image.{Image}
use Rattle.dq_base.specs.declared.image_number.ImageNumber.{ImageNumber}
use Rattle.page_store.specs.Store.{newest_image}
use Rattle.database_state.specs.declared.database.Database.{Database}
use Rattle.database_state.specs.Databases.{named}
use Rattle.database_state.specs.ImageNumbers.{number_of}
use Rattle.raft_spec.specs.Node.{is_leader}
use Rattle.raft_core.specs.Roles.{role_value}
use Rattle.node_core.specs.declared.event.NodeState.{NodeState}

-- the newest image of the database of a name, by its number
pub record IsNewest (name : List ℕ) (databases : List Database) (number : ImageNumber) (image : Image) : Type 0 where
  pub numbered : Some number ≡ option_map number_of (named name databases)
  pub shown : Some image ≡ option_map (λ (database : Database). newest_image database.store) (named name databases)

-- it leads, and has applied all of its log
abbrev pub is_settled : NodeState → Bool
is_settled state = is_leader (role_value state.role) && (state.applied == state.last)
