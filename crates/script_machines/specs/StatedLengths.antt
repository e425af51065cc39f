-- Which databases the commands of a list name, and the greatest length that they state for each.
use Rattle.std.specs.Prelude.{◌≢◌, ◌↔◌, ℕ, max, List, [], ◌∷◌, map, if◌then◌else◌}
use Rattle.std.specs.List.{AllPairs, Contains}
use Rattle.std.specs.Str.{bytes_eq}
use Rattle.log_commands.specs.declared.command.Command.{Command}
use Rattle.script_machines.specs.declared.stated.Stated.{Stated}
use Rattle.script_machines.specs.Limits.{statements}

-- the names in a table
abbrev pub names_in : List Stated → List (List ℕ)
names_in table = map (λ (s : Stated). s.name) table

-- These are the names that statements have, each of them once.
pub record AreNamesIn (stated : List Stated) (names : List (List ℕ)) : Type 0 where
  pub once : AllPairs (λ one other. one ≢ other) names
  pub same : (name : List ℕ) → Contains names name ↔ Contains (names_in stated) name

-- these are the names of the databases that the commands open
abbrev pub AreNamesOf : List Command → List (List ℕ) → Type 0
AreNamesOf commands names = AreNamesIn (statements commands) names

-- the greatest length that is stated for a name, or 0
abbrev pub greatest_stated : List Stated → List ℕ → ℕ
greatest_stated [] name = 0
greatest_stated (s ∷ stated) name = max (if bytes_eq s.name name then s.length else 0) (greatest_stated stated name)

-- the greatest length that a command of the list states for a name, or 0
abbrev pub greatest_length : List Command → List ℕ → ℕ
greatest_length commands name = greatest_stated (statements commands) name
