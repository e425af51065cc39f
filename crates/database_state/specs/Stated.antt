-- How long the files are that commands state.
use Rattle.std.specs.Prelude.{ℕ, ◌+◌, max, true, false, List, [], ◌∷◌, length, bytes_eq, Option, Some, None, if◌then◌else◌}
use Rattle.dq_base.specs.declared.images.Image.{Image}
use Rattle.dq_base.specs.declared.pages.NumberedPage.{NumberedPage}
use Rattle.dq_base.specs.Applying.{is_sizes, stated_main, stated_side, last_page}
use Rattle.log_commands.specs.declared.command.Command.{Command}
use Rattle.log_commands.specs.declared.command.Command.TheVariants.{OpenDb, Frames, Undo, Checkpoint}
use Rattle.log_commands.specs.Spelling.{Writes}

-- the length that a sizes page states, of both files together; another page states none
abbrev pub length_stated : Option NumberedPage → ℕ
length_stated None = 0
length_stated (Some last) = if is_sizes last then stated_main last.page + stated_side last.page else 0

-- the length that a command states for a name: that of the sizes page with which it commits
abbrev pub stated_for : List ℕ → Command → ℕ
stated_for name (OpenDb other) = 0
stated_for name (Frames other tx truncate false pages) = 0
stated_for name (Frames other tx truncate true pages) = if bytes_eq other name then length_stated (last_page pages) else 0
stated_for name (Undo tx) = 0
stated_for name (Checkpoint other) = 0

-- the greatest length that a command of the list states for a name, or 0
abbrev pub greatest_stated : List Command → List ℕ → ℕ
greatest_stated [] name = 0
greatest_stated (command ∷ commands) name = max (stated_for name command) (greatest_stated commands name)

-- how long the files of an image are together
abbrev pub length_of_files : Image → ℕ
length_of_files image = length image.main + length image.side

-- some bytes represent the command, so it may have been read
abbrev pub IsSpelled : Command → Type 0
IsSpelled command = (bytes : List ℕ) × Writes command bytes

-- the name of the database that a command opens, and names after it
abbrev pub opened_by : Command → List (List ℕ) → List (List ℕ)
opened_by (OpenDb name) names = name ∷ names
opened_by (Frames name tx truncate commit pages) names = name ∷ names
opened_by (Undo tx) names = names
opened_by (Checkpoint name) names = names

-- the names of the databases that commands open
abbrev pub names_opened : List Command → List (List ℕ)
names_opened [] = []
names_opened (command ∷ commands) = opened_by command (names_opened commands)
