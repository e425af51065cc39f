-- Which lines may follow a mode line, and which aim at a disk call.
use Rattle.std.specs.Prelude.{Bool, true, false, not}
use Rattle.script_grammar.specs.declared.events.Event.{Event}
use Rattle.script_grammar.specs.declared.events.Event.TheVariants.{Timeout, Beat, Connect, Bytes, Hangup, Deliver, Settle, Crash, Start, Put, Take}
use Rattle.script_grammar.specs.declared.grammar.FaultTarget.{FaultTarget}
use Rattle.script_grammar.specs.declared.grammar.FaultTarget.TheVariants.{Nothing, Stop, Fail}
use Rattle.script_grammar.specs.declared.grammar.Mode.{Mode}
use Rattle.script_grammar.specs.declared.grammar.Mode.TheVariants as mode
use Rattle.script_grammar.specs.declared.grammar.ScriptLine.{ScriptLine}
use Rattle.script_grammar.specs.declared.grammar.ScriptLine.TheVariants as says

-- whether an event is one of state machines that apply one list of commands
abbrev pub is_for_machines : Event → Bool
is_for_machines (Timeout node) = false
is_for_machines (Beat node) = false
is_for_machines (Connect node connection) = false
is_for_machines (Bytes connection bytes) = false
is_for_machines (Hangup connection) = false
is_for_machines (Deliver message) = false
is_for_machines (Settle count) = false
is_for_machines (Crash node pick) = false
is_for_machines (Start node) = false
is_for_machines (Put bytes) = true
is_for_machines (Take machine) = true

abbrev pub is_event_of : Mode → Event → Bool
is_event_of mode.Pages event = is_for_machines event
is_event_of mode.Nodes event = not (is_for_machines event)

-- whether a line may follow the mode line of a mode: each mode has its events, `show`, empty lines and comments
abbrev pub may_follow : Mode → ScriptLine → Bool
may_follow mode says.Blank = true
may_follow mode (says.Nodes voters spare) = false
may_follow mode (says.Pages machines) = false
may_follow mode (says.Show number) = true
may_follow mode (says.Event event aim) = is_event_of mode event

-- whether a line aims at a disk call
abbrev pub is_aimed : FaultTarget → Bool
is_aimed Nothing = false
is_aimed (Stop call pick) = true
is_aimed (Fail call) = true
