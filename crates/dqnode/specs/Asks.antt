-- What the program's words ask for, as clauses name it.
use Rattle.std.specs.Prelude.{◌≡◌, ℕ, true, false, List, Option, Some, None, map, string_bytes, String}
use Rattle.std.specs.declared.alloc.Global.{Global}
use Rattle.sql_engine.specs.declared.kind.EngineKind.{EngineKind}
use Rattle.arguments.specs.declared.invocation.Invocation.{Invocation}
use Rattle.arguments.specs.declared.invocation.Invocation.TheVariants as asks
use Rattle.arguments.specs.declared.invocation.Statement.{Statement}
use Rattle.arguments.specs.declared.invocation.Serve.{Serve}
use Rattle.arguments.specs.Asking.{asked_of}

-- what the arguments after the program's name ask for, if they ask for something
abbrev pub asks_for : List (String Global) → Option Invocation
asks_for words = asked_of (map string_bytes words)

-- for a script to be run with an engine of this kind
abbrev pub ForScript : EngineKind → Option Invocation → Type 0
ForScript kind asked = asked ≡ Some (asks.Script kind)

-- for this statement to be run
abbrev pub ForStatement : Statement → Option Invocation → Type 0
ForStatement statement asked = asked ≡ Some (asks.Statement statement)

-- for the script of a number and a count of writes to be made
abbrev pub ForGenerated : ℕ → ℕ → Option Invocation → Type 0
ForGenerated number writes asked = asked ≡ Some (asks.Generate number writes false)

-- for that script to be run
abbrev pub ForRun : ℕ → ℕ → Option Invocation → Type 0
ForRun number writes asked = asked ≡ Some (asks.Generate number writes true)

-- for this node to be served
abbrev pub ForServed : Serve → Option Invocation → Type 0
ForServed served asked = asked ≡ Some (asks.Serve served)

abbrev pub IsScript : Option Invocation → Type 0
IsScript asked = (kind : EngineKind) × ForScript kind asked

abbrev pub IsRun : Option Invocation → Type 0
IsRun asked = (number writes : ℕ) × ForRun number writes asked

abbrev pub IsStatement : Option Invocation → Type 0
IsStatement asked = (statement : Statement) × ForStatement statement asked

abbrev pub IsServed : Option Invocation → Type 0
IsServed asked = (served : Serve) × ForServed served asked

abbrev pub IsCheck : Option Invocation → Type 0
IsCheck asked = asked ≡ Some asks.Check

abbrev pub IsNothing : Option Invocation → Type 0
IsNothing asked = asked ≡ None

-- a script is asked for, and this holds of the kind of engine that is named
abbrev pub RunsWith : Option Invocation → (EngineKind → Type 0) → Type 0
RunsWith asked holds = (kind : EngineKind) × ForScript kind asked × holds kind
