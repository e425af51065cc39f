-- What holds of each woven log, and what clears pages that are pending.
use Rattle.std.specs.Prelude.{◌≡◌, ◌⊎◌, ℕ, suc, ◌-◌, ◌<◌, ◌≤◌, ◌^◌, Bool, true, List, [], ◌∷◌, ◌++◌, Option, Some, None}
use Rattle.dq_base.specs.declared.pages.NumberedPage.{NumberedPage}
use Rattle.dq_base.specs.declared.pages.PageSet.{PageSet}
use Rattle.log_commands.specs.declared.command.Command.{Command}
use Rattle.log_commands.specs.declared.command.Command.TheVariants.{OpenDb, Frames, Undo, Checkpoint}
use Rattle.database_state.specs.Files.{image_after}
use Rattle.session_spec.specs.Entries.{Content, Does, Configures, Other, Entry, entries_of, tx_of}
use Rattle.session_spec.specs.Machine.{Machine, files, image_at, part}
use Rattle.session_safety.specs.Woven.{Bears, Woven}

-- A transaction has at most one commit, and no pages after it.
abbrev pub OneCommit : Type 0
OneCommit = (log : List Entry) → Woven log → (i j : ℕ) (name other : List ℕ) (tx term late : ℕ) (commit : Bool) (pages more : List NumberedPage) → 0 < i → Bears log i name tx true term pages → Bears log j other tx commit late more → j ≤ i

abbrev pub command_pages : Command → List NumberedPage
command_pages (OpenDb name) = []
command_pages (Frames name tx truncate commit pages) = pages
command_pages (Undo tx) = []
command_pages (Checkpoint name) = []

abbrev pub content_pages : Content → List NumberedPage
content_pages (Does command) = command_pages command
content_pages (Configures servers) = []
content_pages Other = []

-- the pages of entries, one after another
abbrev pub pages_in : List Entry → List NumberedPage
pages_in [] = []
pages_in (e ∷ es) = content_pages e.content ++ pages_in es

-- A commit applies the pages of its own entries, and no others: these are the entries from its transaction's first index on.
abbrev pub CommitsApply : Type 0
CommitsApply = (log : List Entry) → Woven log → (i first term : ℕ) (name : List ℕ) (pages : List NumberedPage) → 0 < i → first < 2 ^ 32 → Bears log i name (tx_of term first) true term pages → (first ≤ i) × (image_at log i name ≡ image_after (image_at log (first - 1) name) (pages_in (part log first i)))

-- An image changes by commits alone.
abbrev pub OnlyCommits : Type 0
OnlyCommits = (log : List Entry) (i : ℕ) (name : List ℕ) → (image_at log (suc i) name ≡ image_at log i name) ⊎ ((tx term : ℕ) × (pages : List NumberedPage) × Bears log (suc i) name tx true term pages)

-- one Undo for each database with pending pages, in the order of names
abbrev pub with_undo : Option PageSet → List Content → List Content
with_undo None contents = contents
with_undo (Some set) contents = Does (Undo set.tx) ∷ contents

abbrev pub undos_for : Machine → List (List ℕ) → List Content
undos_for m [] = []
undos_for m (name ∷ names) = with_undo (m.base name).pending (undos_for m names)

unfoldable pub undos : Machine → List Content
undos m = undos_for m m.names

-- After them nothing is pending anywhere: what a node asks before it serves.
abbrev pub UndosClear : Type 0
UndosClear = (log : List Entry) (term : ℕ) (name : List ℕ) → ((files (log ++ entries_of term (undos (files log)))).base name).pending ≡ None
