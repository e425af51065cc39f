-- What the arguments after the program's name ask for.
use Rattle.std.specs.Prelude.{◌≤◌, ◌<◌, ℕ, Bool, true, false, not, ◌&&◌, cond, List, [], ◌∷◌, length, nat_le, codes, Option, Some, None}
use Rattle.std.specs.List.{list_all}
use Rattle.std.specs.Option.{option_map}
use Rattle.std.specs.Str.{bytes_eq}
use Rattle.clap.specs.Walk.{Row, Text, first_of, all_of}
use Rattle.dq_base.specs.Names.{has_nul}
use Rattle.wire_words.specs.Items.{HasNoNul}
use Rattle.arguments.specs.declared.invocation.Invocation.{Invocation}
use Rattle.arguments.specs.declared.invocation.Invocation.TheVariants as asks
use Rattle.arguments.specs.declared.invocation.Statement.{Statement as StatementAsked}
use Rattle.arguments.specs.Values.{engine_named, is_set, is_address, number_in}
use Rattle.arguments.specs.Serving.{serve_found, IsServable}
use Rattle.arguments.specs.declared.reading.Line.{Line}
use Rattle.arguments.specs.declared.reading.Line.TheVariants as line
use Rattle.arguments.specs.Commands.{script_app, statement_app, check_app, generate_app, serve_app, read_by}

-- after `script`
abbrev pub script_in : List Row → Option Invocation
script_in rows = option_map (λ kind. asks.Script kind) (engine_named (first_of (codes "engine") rows))

-- 1 to 9 addresses
abbrev pub are_addresses : List Text → Bool
are_addresses texts = nat_le 1 (length texts) && (nat_le (length texts) 9 && list_all is_address texts)

abbrev pub is_askable : Text → Text → List Text → Bool
is_askable name sql addresses = not (has_nul name) && (not (has_nul sql) && are_addresses addresses)

abbrev pub statement_with : Bool → Option Text → Option Text → Option (List Text) → Option Invocation
statement_with query (Some name) (Some sql) (Some addresses) =
    cond (is_askable name sql addresses) (Some (asks.Statement (record { query = query; name = name; sql = sql; addresses = addresses }))) None
statement_with query name sql addresses = None

-- after `exec` and `query`
abbrev pub statement_in : Bool → List Row → Option Invocation
statement_in query rows = statement_with query (first_of (codes "NAME") rows) (first_of (codes "SQL") rows) (all_of (codes "ADDRESS") rows)

abbrev pub generate_with : Option ℕ → Option ℕ → Bool → Option Invocation
generate_with (Some number) (Some count) run = Some (asks.Generate number count run)
generate_with number count run = None

-- after `gen`
abbrev pub generate_in : List Row → Option Invocation
generate_in rows =
    generate_with (number_in 0 2147483647 (first_of (codes "NUMBER") rows)) (number_in 1 2000 (first_of (codes "COUNT") rows))
    (is_set (first_of (codes "run") rows))

abbrev pub script_found : Option (List Row) → Option Invocation
script_found (Some rows) = script_in rows
script_found None = None

abbrev pub statement_found : Bool → Option (List Row) → Option Invocation
statement_found query (Some rows) = statement_in query rows
statement_found query None = None

abbrev pub check_found : Option (List Row) → Option Invocation
check_found (Some rows) = Some asks.Check
check_found None = None

abbrev pub generate_found : Option (List Row) → Option Invocation
generate_found (Some rows) = generate_in rows
generate_found None = None

-- the first word says how the others are read
abbrev pub line_of : Text → Option Line
line_of word =
    cond (bytes_eq word (codes "script")) (Some line.Script)
    (cond (bytes_eq word (codes "exec")) (Some line.Exec)
    (cond (bytes_eq word (codes "query")) (Some line.Query)
    (cond (bytes_eq word (codes "check")) (Some line.Check)
    (cond (bytes_eq word (codes "gen")) (Some line.Generate)
    (cond (bytes_eq word (codes "serve")) (Some line.Serve) None)))))

abbrev pub asked_by : Option Line → List Text → Option Invocation
asked_by None words = None
asked_by (Some line.Script) words = script_found (read_by script_app words)
asked_by (Some line.Exec) words = statement_found false (read_by statement_app words)
asked_by (Some line.Query) words = statement_found true (read_by statement_app words)
asked_by (Some line.Check) words = check_found (read_by check_app words)
asked_by (Some line.Generate) words = generate_found (read_by generate_app words)
asked_by (Some line.Serve) words = option_map (λ served. asks.Serve served) (serve_found (read_by serve_app words))

-- what the arguments after the program's name ask for, if they ask for something
unfoldable pub asked_of : List Text → Option Invocation
asked_of [] = None
asked_of (word ∷ words) = asked_by (line_of word) words

-- a statement has 1 to 9 addresses, and no text that is sent holds a NUL
pub record CanBeSent (statement : StatementAsked) : Type 0 where
  pub some : 0 < length statement.addresses
  pub few : length statement.addresses ≤ 9
  pub name : HasNoNul statement.name
  pub sql : HasNoNul statement.sql

abbrev pub IsAskable : Option Invocation → Type 0
IsAskable (Some (asks.Statement statement)) = CanBeSent statement
IsAskable (Some (asks.Serve served)) = IsServable served
IsAskable asked = Unit {0}
