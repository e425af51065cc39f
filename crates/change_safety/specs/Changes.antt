-- Which entries of a log change a database, and the images after these changes.
use Rattle.std.specs.Prelude.{◌≡◌, ℕ, ◌≤◌, Bool, true, false, not, ◌||◌, List, [], ◌∷◌, ◌++◌, length, map, take, Option, Some, None, if◌then◌else◌}
use Rattle.dq_base.specs.declared.images.Image.{Image}
use Rattle.log_commands.specs.declared.command.Command.{Command}
use Rattle.log_commands.specs.declared.command.Command.TheVariants.{OpenDb, Frames, Undo, Checkpoint}
use Rattle.database_state.specs.declared.database.Database.{Database}
use Rattle.database_state.specs.Databases.{contents_of}
use Rattle.session_spec.specs.Entries.{Content, Does, Configures, Other, Entry}
use Rattle.session_spec.specs.Machine.{Machine, is_named, nothing, machine_of, act, done, files}
use Rattle.headline.specs.Headline.{Change, image_in, shown_image}

-- A change of a database: its name, and the image after it.
pub record NewImage : Type 0 where
  pub name : List ℕ
  pub after : Image

abbrev pub new_image : Change → NewImage
new_image c = record { name = c.name; after = c.after }

-- the image of a database, if it exists
abbrev pub image_of : Machine → List ℕ → Option Image
image_of m name = if is_named m.names name then Some (m.base name).image else None

abbrev pub when : Bool → NewImage → List NewImage
when true change = change ∷ []
when false change = []

-- An entry changes a database if it makes one that did not exist, or commits pages of it.
abbrev pub change_by : Machine → Command → List NewImage
change_by m (OpenDb name) = when (not (is_named m.names name)) (record { name = name; after = (m.base name).image })
change_by m (Frames name tx truncate commit pages) = when (commit || not (is_named m.names name))
    (record { name = name; after = ((act m (Frames name tx truncate commit pages)).base name).image })
change_by m (Undo tx) = []
change_by m (Checkpoint name) = []

abbrev pub changes_by : Machine → Content → List NewImage
changes_by m (Does command) = change_by m command
changes_by m (Configures servers) = []
changes_by m Other = []

abbrev pub changes_from : Machine → List Entry → List NewImage
changes_from m [] = []
changes_from m (e ∷ es) = changes_by m e.content ++ changes_from (done m e.content) es

-- the changes that a list of entries makes
abbrev pub changes_of : List Entry → List NewImage
changes_of entries = changes_from nothing entries

-- how many changes its first `index` entries make
abbrev pub changes_at : List Entry → ℕ → ℕ
changes_at entries index = length (changes_of (take index entries))

-- More entries make no fewer changes.
abbrev pub ChangesGrow : Type 0
ChangesGrow = (entries : List Entry) (a b : ℕ) → a ≤ b → changes_at entries a ≤ changes_at entries b

-- The databases of the first `index` entries are the images after the changes that these entries make.
abbrev pub FilesAreChanges : Type 0
FilesAreChanges =
    (entries : List Entry) (order : List Change) → map new_image order ≡ changes_of entries → (index : ℕ) (name : List ℕ) →
    image_in (take (changes_at entries index) order) name ≡ image_of (files (take index entries)) name

-- What a node shows of its databases is their images.
abbrev pub ShownAreFiles : Type 0
ShownAreFiles = (databases : List Database) (name : List ℕ) → shown_image (contents_of databases) name ≡ image_of (machine_of databases) name
