-- Wrong lists of changes and wrong files, which the laws of this crate refuse.
use Rattle.std.specs.Prelude.{◌≡◌, ◌≢◌, ℕ, false, List, [], ◌∷◌, map, codes, Some, None}
use Rattle.dq_base.specs.declared.images.Image.{Image}
use Rattle.dq_base.specs.declared.pages.NumberedPage.{NumberedPage}
use Rattle.log_commands.specs.declared.command.Command.{Command}
use Rattle.log_commands.specs.declared.command.Command.TheVariants.{OpenDb, Frames}
use Rattle.database_state.specs.declared.database.Database.{Database}
use Rattle.database_state.specs.Databases.{contents_of}
use Rattle.session_spec.specs.Entries.{Does, Entry}
use Rattle.session_spec.specs.Machine.{machine_of, files}
use Rattle.headline.specs.Headline.{Change, shown_image}
use Rattle.change_safety.specs.Changes.{new_image, image_of, changes_of, changes_at}

-- an entry of term 1 with a command
abbrev pub entry : Command → Entry
entry command = record { term = 1; content = Does command }

-- One entry makes a change, and the entry after it takes the change away.
abbrev pub NoFewerChanges : Type 0
NoFewerChanges = (entries : List Entry) → changes_at entries 1 ≡ 1 → changes_at entries 2 ≡ 0 → ⊥

-- A database is opened twice, and both entries make a change.
abbrev pub NoSecondOpening : Type 0
NoSecondOpening =
    (c e : Change) → map new_image (c ∷ e ∷ []) ≡ changes_of (entry (OpenDb (codes "d")) ∷ entry (OpenDb (codes "d")) ∷ []) → ⊥

-- A database is opened, and pages of a transaction that has not ended are a change.
abbrev pub NoUnfinishedChange : Type 0
NoUnfinishedChange =
    (c e : Change) (tx truncate : ℕ) (pages : List NumberedPage) →
    map new_image (c ∷ e ∷ []) ≡ changes_of (entry (OpenDb (codes "d")) ∷ entry (Frames (codes "d") tx truncate false pages) ∷ []) → ⊥

-- A database has had two changes, and still has the image of the first one.
abbrev pub NoLostChange : Type 0
NoLostChange =
    (entries : List Entry) (c e : Change) → map new_image (c ∷ e ∷ []) ≡ changes_of entries → e.name ≡ c.name → e.after ≢ c.after →
    image_of (files entries) c.name ≡ Some c.after → ⊥

-- A node has a database and shows no files of it.
abbrev pub NoHiddenDatabase : Type 0
NoHiddenDatabase =
    (databases : List Database) (name : List ℕ) (image : Image) → image_of (machine_of databases) name ≡ Some image →
    shown_image (contents_of databases) name ≡ None → ⊥

-- A node shows another image of a database than the one that it has.
abbrev pub NoOtherImage : Type 0
NoOtherImage =
    (databases : List Database) (name : List ℕ) (image other : Image) → image_of (machine_of databases) name ≡ Some image → other ≢ image →
    shown_image (contents_of databases) name ≡ Some other → ⊥
