-- The limits of a list of commands: how many names it has, and how long the files are that it states.
use Rattle.std.specs.Prelude.{◌≡◌, ◌+◌, ◌&&◌, ℕ, max, Bool, List, [], ◌∷◌, ◌++◌, fold, length, get_or, set, sum_by, nat_le, ◌<◌, Option, Some, None, if◌then◌else◌}
use Rattle.std.specs.List.{flat_map}
use Rattle.std.specs.Str.{bytes_eq}
use Rattle.dq_base.specs.declared.pages.NumberedPage.{NumberedPage}
use Rattle.dq_base.specs.Applying.{is_sizes, stated_main, stated_side, last_page}
use Rattle.log_commands.specs.declared.command.Command.{Command}
use Rattle.log_commands.specs.declared.command.Command.TheVariants.{OpenDb, Frames, Undo, Checkpoint}
use Rattle.script_machines.specs.declared.stated.Stated.{Stated}

-- the length that a sizes page states, of both files together; another page states none
abbrev pub length_stated_by : Option NumberedPage → ℕ
length_stated_by None = 0
length_stated_by (Some page) = if is_sizes page then stated_main page.page + stated_side page.page else 0

-- What a command states: the name of the database that it opens, with the length of the sizes page with which it
-- commits. Commands that open none state nothing.
abbrev pub stated_by : Command → List Stated
stated_by (OpenDb name) = record { name = name; length = 0 } ∷ []
stated_by (Frames name tx truncate commit pages) = record { name = name; length = if commit then length_stated_by (last_page pages) else 0 } ∷ []
stated_by (Undo tx) = []
stated_by (Checkpoint name) = []

-- what commands state, in order
abbrev pub statements : List Command → List Stated
statements commands = flat_map stated_by commands

-- the greatest length that is stated for each name, after one more
unfoldable pub note : List Stated → List ℕ → ℕ → List Stated
note [] name length = record { name = name; length = length } ∷ []
note (s ∷ ss) name length =
    if bytes_eq s.name name then record { name = s.name; length = max s.length length } ∷ ss
    else s ∷ note ss name length

-- the names in a table and in statements after it, each with the greatest length that is stated for it
abbrev pub noted : List Stated → List Stated → List Stated
noted table stated = fold (λ table s. note table s.name s.length) table stated

-- the names of a list of commands, each with the greatest length that is stated for it
abbrev pub table_of : List Command → List Stated
table_of commands = noted [] (statements commands)

-- at most 16 names, and in all at most 67,108,864 bytes
unfoldable pub is_allowed : List Stated → Bool
is_allowed table = nat_le (length table) 16 && nat_le (sum_by (λ (s : Stated). s.length) table) 67108864

-- whether a command may join a list
abbrev pub may_join : List Command → Command → Bool
may_join commands command = is_allowed (table_of (commands ++ command ∷ []))

-- the entry of the name is at this place
abbrev pub IsNotedAt : List ℕ → List Stated → ℕ → Type 0
IsNotedAt name table place = (place < length table) × ((length : ℕ) (s : Stated) → note table name length ≡ set table place (record { name = (get_or table place s).name; length = max (get_or table place s).length length }))

-- there is no entry of the name
abbrev pub IsNew : List ℕ → List Stated → Type 0
IsNew name table = (length : ℕ) → note table name length ≡ table ++ record { name = name; length = length } ∷ []
