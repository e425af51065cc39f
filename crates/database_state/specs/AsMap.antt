-- The databases that commands make, as a map from names.
use Rattle.std.specs.Prelude.{◌≡◌, ◌≢◌, ℕ, List, map, find, bytes_eq, unwrap_or, Option, Some}
use Rattle.std.specs.Option.{option_map}
use Rattle.log_commands.specs.declared.command.Command.{Command}
use Rattle.log_commands.specs.declared.command.Command.TheVariants.{OpenDb, Frames, Undo, Checkpoint}
use Rattle.database_state.specs.ByName.{Ascend}
use Rattle.database_state.specs.Files.{Content, new_content, frames, undone}

-- the names of databases, as they stand
abbrev pub names_of : List Content → List (List ℕ)
names_of contents = map (λ (content : Content). content.name) contents

-- databases stand strictly ascending by the bytes of their names, so each name is there once
abbrev pub AreInOrder : List Content → Type 0
AreInOrder contents = Ascend (names_of contents)

-- the database of a name, if there is one
abbrev pub content_named : List ℕ → List Content → Option Content
content_named name contents = find (λ (content : Content). bytes_eq name content.name) contents

-- the same, or a new one
abbrev pub named_or_new : List ℕ → List Content → Content
named_or_new name contents = unwrap_or (content_named name contents) (new_content name)

-- The database of a name is changed so, a new one if there was none, and each other is as it was.
pub record ChangesOne (name : List ℕ) (f : Content → Content) (before after : List Content) : Type 0 where
  pub own : content_named name after ≡ Some (f (named_or_new name before))
  pub others : (other : List ℕ) → other ≢ name → content_named other after ≡ content_named other before

-- each database is changed so, and none comes or goes
abbrev pub ChangesEach : (Content → Content) → List Content → List Content → Type 0
ChangesEach f before after = (name : List ℕ) → content_named name after ≡ option_map f (content_named name before)

-- What a command does: OpenDb and Frames change the database of their name, Undo drops what is pending for its transaction
-- in each database, and Checkpoint changes nothing.
abbrev pub Does : Command → List Content → List Content → Type 0
Does (OpenDb name) before after = ChangesOne name (λ content. content) before after
Does (Frames name tx truncate commit pages) before after = ChangesOne name (frames tx commit pages) before after
Does (Undo tx) before after = ChangesEach (undone tx) before after
Does (Checkpoint name) before after = after ≡ before
