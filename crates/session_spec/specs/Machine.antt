-- The databases that entries make, as a map from names, with the counts that the rules of sessions look at.
use Rattle.std.specs.Prelude.{ℕ, suc, ◌-◌, Bool, true, false, List, [], ◌∷◌, ◌++◌, length, take, drop, bytes_eq, is_none, Option, Some, None, if◌then◌else◌}
use Rattle.std.specs.List.{list_any}
use Rattle.dq_base.specs.declared.images.Image.{Image}
use Rattle.dq_base.specs.declared.pages.NumberedPage.{NumberedPage}
use Rattle.dq_base.specs.declared.pages.PageSet.{PageSet}
use Rattle.dq_base.specs.Applying.{page_fault}
use Rattle.log_commands.specs.declared.command.Command.{Command}
use Rattle.log_commands.specs.declared.command.Command.TheVariants.{OpenDb, Frames, Undo, Checkpoint}
use Rattle.page_store.specs.Store.{newest, newest_image}
use Rattle.database_state.specs.declared.database.Database.{Database}
use Rattle.database_state.specs.ByName.{at_name}
use Rattle.database_state.specs.Files.{empty_image, image_after, pending_of, pending_without}
use Rattle.database_state.specs.Databases.{named, grown}
use Rattle.database_state.specs.Machines.{names_of}
use Rattle.session_spec.specs.Entries.{Content, Does, Configures, Other, Entry}

-- A database: its newest image, the pages of a transaction that has not ended, how many commits there were, and how many
-- pages were committed since the last checkpoint.
pub record Base : Type 0 where
  pub image : Image
  pub pending : Option PageSet
  pub newest : ℕ
  pub since : ℕ

-- the databases by their names; a name that isn't among them has a new one
pub record Machine : Type 0 where
  pub names : List (List ℕ)
  pub base : List ℕ → Base

-- the name is one of these
abbrev pub is_named : List (List ℕ) → List ℕ → Bool
is_named names name = list_any (λ (other : List ℕ). bytes_eq name other) names

-- a new database: two empty files
abbrev pub blank : Base
blank = record { image = empty_image; pending = None; newest = 0; since = 0 }

abbrev pub nothing : Machine
nothing = record { names = []; base = λ name. blank }

-- ---- what a node's state machine holds

abbrev pub base_of : Option Database → Base
base_of None = blank
base_of (Some database) = record { image = newest_image database.store; pending = database.pending; newest = newest database.store; since = database.since }

-- the databases of a node as a map
abbrev pub machine_of : List Database → Machine
machine_of databases = record { names = names_of databases; base = λ name. base_of (named name databases) }

-- ---- what entries do

-- the names with this one, in the order of their bytes
abbrev pub with_name : List ℕ → List (List ℕ) → List (List ℕ)
with_name name names = at_name (λ (other : List ℕ). other) name name (λ (other : List ℕ). other) names

-- the pages are one more commit, if they can be applied; else the database stays
unfoldable pub with_commit : List NumberedPage → Base → Base
with_commit pages base =
    if is_none (page_fault pages)
    then record { image = image_after base.image pages; pending = base.pending; newest = suc base.newest; since = grown base.since (length pages) }
    else base

abbrev pub with_pending : Option PageSet → Base → Base
with_pending pending base = record { image = base.image; pending = pending; newest = base.newest; since = base.since }

-- Pages join those that are pending for their transaction, in place of another transaction's; the last of them make all
-- one commit.
unfoldable pub framed : ℕ → Bool → List NumberedPage → Base → Base
framed tx true pages base = with_pending None (with_commit (pending_of tx base.pending ++ pages) base)
framed tx false pages base = with_pending (Some (record { tx = tx; pages = pending_of tx base.pending ++ pages })) base

-- what is pending for a transaction is dropped
abbrev pub undone : ℕ → Base → Base
undone tx base = with_pending (pending_without tx base.pending) base

-- after a checkpoint
abbrev pub checked : Base → Base
checked base = record { image = base.image; pending = base.pending; newest = base.newest; since = 0 }

-- what is done to the database of a name
abbrev pub changed_at : List ℕ → (Base → Base) → (List ℕ → Base) → List ℕ → Base
changed_at name f base other = if bytes_eq other name then f (base other) else base other

-- what a command does
unfoldable pub act : Machine → Command → Machine
act m (OpenDb name) = record { names = with_name name m.names; base = m.base }
act m (Frames name tx truncate commit pages) = record { names = with_name name m.names; base = changed_at name (framed tx commit pages) m.base }
act m (Undo tx) = record { names = m.names; base = λ name. undone tx (m.base name) }
act m (Checkpoint name) = record { names = m.names; base = changed_at name checked m.base }

-- what an entry does
abbrev pub done : Machine → Content → Machine
done m (Does command) = act m command
done m (Configures servers) = m
done m Other = m

abbrev pub files_from : Machine → List Entry → Machine
files_from m [] = m
files_from m (e ∷ es) = files_from (done m e.content) es

-- the databases that a list of entries makes
unfoldable pub files : List Entry → Machine
files entries = files_from nothing entries

-- the database of the name after the first this many entries
abbrev pub base_at : List Entry → ℕ → List ℕ → Base
base_at entries index name = (files (take index entries)).base name

-- its image
abbrev pub image_at : List Entry → ℕ → List ℕ → Image
image_at entries index name = (base_at entries index name).image

-- the entries of the indexes from first to last
abbrev pub part : List Entry → ℕ → ℕ → List Entry
part entries first last = drop (first - 1) (take last entries)
