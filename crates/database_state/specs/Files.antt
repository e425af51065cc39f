-- What commands make: the databases of a node by their names, each with its files and the pages that are pending.
use Rattle.std.specs.Prelude.{◌≡◌, ℕ, ◌==◌, Bool, true, false, List, [], ◌++◌, fold, map, is_none, Option, Some, None, if◌then◌else◌}
use Rattle.std.specs.List.{AllByRecursion}
use Rattle.dq_base.specs.declared.images.Image.{Image}
use Rattle.dq_base.specs.declared.pages.NumberedPage.{NumberedPage}
use Rattle.dq_base.specs.declared.pages.PageSet.{PageSet}
use Rattle.dq_base.specs.Applying.{applied, page_fault}
use Rattle.log_commands.specs.declared.command.Command.{Command}
use Rattle.log_commands.specs.declared.command.Command.TheVariants.{OpenDb, Frames, Undo, Checkpoint}
use Rattle.database_state.specs.ByName.{at_name}

-- a database: its files, and the pages of a transaction that has not ended
pub record Content : Type 0 where
  pub name : List ℕ
  pub image : Image
  pub pending : Option PageSet

-- two empty files
abbrev pub empty_image : Image
empty_image = record { main = []; side = [] }

-- a new database
abbrev pub new_content : List ℕ → Content
new_content name = record { name = name; image = empty_image; pending = None }

-- the pages that are pending for a transaction
abbrev pub pending_of : ℕ → Option PageSet → List NumberedPage
pending_of tx None = []
pending_of tx (Some set) = if set.tx == tx then set.pages else []

-- what is pending where the pages of a transaction are dropped
abbrev pub pending_without : ℕ → Option PageSet → Option PageSet
pending_without tx None = None
pending_without tx (Some set) = if set.tx == tx then None else Some set

-- the image after pages, if they can be applied; else it stays
abbrev pub image_after : Image → List NumberedPage → Image
image_after image pages = if is_none (page_fault pages) then applied image pages else image

-- Pages of a transaction join those that are pending for it, in place of another transaction's, and the last of them
-- bring all into the image.
unfoldable pub frames : ℕ → Bool → List NumberedPage → Content → Content
frames tx true pages content = record { name = content.name; image = image_after content.image (pending_of tx content.pending ++ pages); pending = None }
frames tx false pages content = record { name = content.name; image = content.image; pending = Some (record { tx = tx; pages = pending_of tx content.pending ++ pages }) }

-- the pages that are pending for a transaction are dropped
abbrev pub undone : ℕ → Content → Content
undone tx content = record { name = content.name; image = content.image; pending = pending_without tx content.pending }

-- what is done to the database of a name, a new one if there is none
abbrev pub changed : List ℕ → (Content → Content) → List Content → List Content
changed name f contents = at_name (λ content. content.name) (new_content name) name f contents

-- the databases after a command
unfoldable pub act : List Content → Command → List Content
act contents (OpenDb name) = changed name (λ content. content) contents
act contents (Frames name tx truncate commit pages) = changed name (frames tx commit pages) contents
act contents (Undo tx) = map (undone tx) contents
act contents (Checkpoint name) = contents

-- the databases that a list of commands makes, from none on
abbrev pub files : List Command → List Content
files commands = fold act [] commands

-- a set is applied where it can be, and nothing is pending
abbrev pub applied_set : PageSet → Content → Content
applied_set set content = record { name = content.name; image = image_after content.image set.pages; pending = None }

-- under this name no pages of the transaction are pending
abbrev pub NonePending : List ℕ → ℕ → List Content → Type 0
NonePending name tx contents = AllByRecursion (λ content. content.name ≡ name → pending_of tx content.pending ≡ []) contents
