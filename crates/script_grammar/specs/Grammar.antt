-- What a line of a script says.
use Rattle.std.specs.Prelude.{◌==◌, ◌+◌, ◌&&◌, ℕ, Bool, List, [], ◌∷◌, length, codes, nat_lt, nat_le, true, Option, Some, None, if◌then◌else◌}
use Rattle.std.specs.Option.{option_map}
use Rattle.std.specs.List.{list_all}
use Rattle.dq_base.specs.Texts.{halves, behind, or_else}
use Rattle.script_grammar.specs.ScriptSize.{line_limit}
use Rattle.script_grammar.specs.Events.{◌>>=◌, number, number_within, one_or_two, event_of, may_be_aimed}
use Rattle.script_grammar.specs.declared.events.Event.{Event}
use Rattle.script_grammar.specs.declared.grammar.FaultTarget.{FaultTarget}
use Rattle.script_grammar.specs.declared.grammar.FaultTarget.TheVariants.{Nothing, Stop, Fail}
use Rattle.script_grammar.specs.declared.grammar.ScriptLine.{ScriptLine}
use Rattle.script_grammar.specs.declared.grammar.ScriptLine.TheVariants as says

-- this many voters and further nodes may be in one cluster
abbrev pub is_cluster : ℕ → ℕ → Bool
is_cluster voters spare = (nat_le 1 voters && nat_le voters 7) && nat_le (voters + spare) 9

-- `nodes V` and `nodes V S`
unfoldable pub nodes_of : List ℕ → Option ScriptLine
nodes_of text = do
  both ← one_or_two text
  if is_cluster both.0 both.1 then Some (says.Nodes both.0 both.1) else None

-- the number of a disk call, from 1
abbrev pub call_of : List ℕ → Option ℕ
call_of word = number_within 1 4294967295 word

-- what `stop K P` aims, and what follows it
unfoldable pub stop_of : List ℕ → Option (FaultTarget × List ℕ)
stop_of text = do
  both ← halves text
  call ← call_of both.0
  rest ← halves both.1
  pick ← number rest.0
  Some (Stop call pick, rest.1)

-- what `fail K` aims, and what follows it
unfoldable pub fail_of : List ℕ → Option (FaultTarget × List ℕ)
fail_of text = do
  both ← halves text
  call ← call_of both.0
  Some (Fail call, both.1)

-- an event under an aim, if it may be aimed
abbrev pub under : FaultTarget → Event → Option ScriptLine
under aim event = if may_be_aimed event then Some (says.Event event aim) else None

-- an aim, and the event after it
unfoldable pub aimed_of : Option (FaultTarget × List ℕ) → Option ScriptLine
aimed_of front = do
  both ← front
  event ← event_of both.1
  under both.0 event

-- a line of words
unfoldable pub words_line : List ℕ → Option ScriptLine
words_line line =
    or_else (behind (codes "nodes ") line) nodes_of
    (or_else (behind (codes "pages ") line) (λ text. option_map says.Pages (number_within 1 9 text))
    (or_else (behind (codes "show ") line) (λ text. option_map says.Show (number text))
    (or_else (behind (codes "stop ") line) (λ text. aimed_of (stop_of text))
    (or_else (behind (codes "fail ") line) (λ text. aimed_of (fail_of text))
    (option_map (λ event. says.Event event Nothing) (event_of line))))))

-- ASCII, and no longer than a line may be
abbrev pub is_fit : List ℕ → Bool
is_fit line = nat_le (length line) line_limit && list_all (λ b. nat_lt b 128) line

-- an empty line, or a comment
abbrev pub is_blank : List ℕ → Bool
is_blank [] = true
is_blank (b ∷ bytes) = b == 35

-- what a line says, if it is in the grammar
unfoldable pub line_of : List ℕ → Option ScriptLine
line_of line = if is_fit line then (if is_blank line then Some says.Blank else words_line line) else None
