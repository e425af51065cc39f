-- A state machine as its databases, by the bytes of their names, each with its base, sets and live marks.
use Rattle.std.specs.Prelude.{◌≡◌, ◌==◌, ℕ, ◌+◌, ◌-◌, ◌<◌, ◌≤◌, ◌^◌, min, Bool, true, false, List, [], ◌++◌, find, length, map, set, insert, get_or, bytes_eq, is_none, Option, Some, None, if◌then◌else◌}
use Rattle.std.specs.Option.{option_map}
use Rattle.dq_base.specs.declared.pages.NumberedPage.{NumberedPage}
use Rattle.dq_base.specs.declared.pages.PageSet.{PageSet}
use Rattle.dq_base.specs.Applying.{page_fault}
use Rattle.log_commands.specs.declared.command.Command.{Command}
use Rattle.log_commands.specs.declared.command.Command.TheVariants.{OpenDb, Frames, Undo, Checkpoint}
use Rattle.page_store.specs.Store.{Store, fresh_store, newest_image, committed, checkpointed}
use Rattle.database_state.specs.declared.database.Database.{Database}
use Rattle.database_state.specs.ByName.{at_name, change_first}
use Rattle.database_state.specs.Files.{Content, empty_image, pending_of, pending_without}

-- what the commands of a state machine made of a database: its newest image, and the pages that are pending
abbrev pub content_of : Database → Content
content_of database = record { name = database.name; image = newest_image database.store; pending = database.pending }

abbrev pub contents_of : List Database → List Content
contents_of databases = map content_of databases

abbrev pub has_name : List ℕ → Database → Bool
has_name name database = bytes_eq name database.name

-- the database of a name, if there is one
abbrev pub named : List ℕ → List Database → Option Database
named name databases = find (has_name name) databases

-- a new database, which was opened when this many were there
abbrev pub opened : ℕ → List ℕ → Database
opened place name = record { name = name; place = place; store = fresh_store empty_image; pending = None; since = 0 }

-- a count of 64 bits that grew by so much; it is still at its type's end
abbrev pub grown : ℕ → ℕ → ℕ
grown count by = min (count + by) (2 ^ 64 - 1)

-- the pages are one more commit, if they can be applied; else the database stays, and they count nowhere
abbrev pub with_commit : List NumberedPage → Database → Database
with_commit pages database =
    if is_none (page_fault pages)
    then record { name = database.name; place = database.place; store = committed database.store pages; pending = database.pending; since = grown database.since (length pages) }
    else database

-- a database with these pages pending, or none
abbrev pub with_pending : Option PageSet → Database → Database
with_pending pending database = record { name = database.name; place = database.place; store = database.store; pending = pending; since = database.since }

-- a database with this store
abbrev pub with_store : Store → Database → Database
with_store store database = record { name = database.name; place = database.place; store = store; pending = database.pending; since = database.since }

-- Pages of a transaction join those that are pending for it, in place of another transaction's, and the last of them
-- make all one commit.
unfoldable pub frames : ℕ → Bool → List NumberedPage → Database → Database
frames tx true pages database = with_pending None (with_commit (pending_of tx database.pending ++ pages) database)
frames tx false pages database = with_pending (Some (record { tx = tx; pages = pending_of tx database.pending ++ pages })) database

-- the pages that are pending for a transaction are dropped
abbrev pub undone : ℕ → Database → Database
undone tx database = with_pending (pending_without tx database.pending) database

-- after a checkpoint: the sets up to the least live mark are moved into the base
abbrev pub moved : Database → Database
moved database = record { name = database.name; place = database.place; store = checkpointed database.store; pending = database.pending; since = 0 }

-- what is done to the database of a name, a new one if there is none
abbrev pub changed : List ℕ → (Database → Database) → List Database → List Database
changed name f databases = at_name (λ database. database.name) (opened (length databases) name) name f databases

-- the databases after a command
unfoldable pub act : List Database → Command → List Database
act databases (OpenDb name) = changed name (λ database. database) databases
act databases (Frames name tx truncate commit pages) = changed name (frames tx commit pages) databases
act databases (Undo tx) = map (undone tx) databases
act databases (Checkpoint name) = change_first (has_name name) moved databases

-- the database of the name is at this place
abbrev pub StandsAt : List ℕ → List Database → ℕ → Type 0
StandsAt name databases place = (place < length databases) × ((new d : Database) (f : Database → Database) → at_name (λ database. database.name) new name f databases ≡ set databases place (f (get_or databases place d)))

-- there is no database of the name, and this is the place for it
abbrev pub BelongsAt : List ℕ → List Database → ℕ → Type 0
BelongsAt name databases place = (place ≤ length databases) × ((new : Database) (f : Database → Database) → at_name (λ database. database.name) new name f databases ≡ insert databases place (f new))

-- the pages that are pending, of whichever transaction
abbrev pub pages_in : Option PageSet → List NumberedPage
pages_in None = []
pages_in (Some pending) = pending.pages

-- whether pages of a transaction are pending
abbrev pub is_pending : ℕ → Option PageSet → Bool
is_pending tx None = false
is_pending tx (Some pending) = pending.tx == tx

-- the transaction whose pages are pending in a database
abbrev pub tx_pending : Option Database → Option ℕ
tx_pending None = None
tx_pending (Some database) = option_map (λ (pending : PageSet). pending.tx) database.pending
