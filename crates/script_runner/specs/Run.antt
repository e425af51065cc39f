-- The run that a script of either mode makes with what came of its events at nodes, and the text that it prints.
use Rattle.std.specs.Prelude.{ℕ, suc, List, [], ◌∷◌, ◌++◌, map, nat_le, Option, Some, None, if◌then◌else◌}
use Rattle.std.specs.List.{flat_map}
use Rattle.script_grammar.specs.ScriptSize.{line_count_limit}
use Rattle.script_grammar.specs.Lines.{lines_of}
use Rattle.script_grammar.specs.Grammar.{line_of}
use Rattle.script_grammar.specs.Usage.{no_usage, with_event}
use Rattle.script_grammar.specs.declared.grammar.ScriptLine.{ScriptLine}
use Rattle.script_grammar.specs.declared.grammar.ScriptLine.TheVariants as says
use Rattle.script_grammar.specs.declared.usage.Usage.{Usage}
use Rattle.script_cluster.specs.declared.cluster_line.ClusterLine.{ClusterLine as NodeSaid}
use Rattle.script_cluster.specs.Outcomes.{Outcome, Turn, Item}
use Rattle.script_cluster.specs.Printed as nodes_text
use Rattle.script_cluster.specs.Run as nodes
use Rattle.script_cluster.specs.Run.{Fault, Line, Large, fault_text}
use Rattle.script_machines.specs.declared.machine_line.MachineLine.{MachineLine as MachineSaid}
use Rattle.script_machines.specs.Machines.{Fleet, idle_fleet, applies, standing_of, standings}
use Rattle.script_machines.specs.Printed as pages_text

-- what is said: of nodes and their clients, or of state machines
pub data Said : Type 0 where
  OfNodes : NodeSaid → Said
  OfMachines : MachineSaid → Said

-- if a script is: before its mode line or among nodes; or among state machines, after this many events
pub data Stage : Type 0 where
  AtNodes : nodes.Stage → Stage
  AtMachines : Usage → Fleet → Stage

-- where a line leads, what is said, and why the run ends there, if it does
pub record Next : Type 0 where
  pub stage : Stage
  pub said : List Said
  pub fault : Option Fault

abbrev pub stays : Stage → List Said → Next
stays stage said = record { stage = stage; said = said; fault = None }

abbrev pub stops : Stage → Fault → Next
stops stage fault = record { stage = stage; said = []; fault = Some fault }

-- what a line leads to among nodes
abbrev pub at_nodes : nodes.Next → Next
at_nodes next = record { stage = AtNodes next.stage; said = map OfNodes next.said; fault = next.fault }

-- this many state machines are opened, before any mode line
abbrev pub opens : nodes.Stage → ℕ → ℕ → Next
opens (nodes.Opening outcomes) number machines = stays (AtMachines no_usage (idle_fleet machines)) []
opens (nodes.Within w) number machines = stops (AtNodes (nodes.Within w)) (Line number)

-- how a state machine stands is shown, if it is there
abbrev pub shows : Usage → Fleet → ℕ → Option MachineSaid → Next
shows usage fleet number None = stops (AtMachines usage fleet) (Line number)
shows usage fleet number (Some say) = stays (AtMachines usage fleet) (OfMachines say ∷ [])

-- an event at state machines is one more, if there may be one
abbrev pub counts : Usage → Fleet → Fleet × List MachineSaid → Option Usage → Next
counts usage fleet next None = stops (AtMachines usage fleet) Large
counts usage fleet next (Some more) = stays (AtMachines more next.0) (map OfMachines next.1)

-- and what it names is there
abbrev pub after_event : Usage → Fleet → ℕ → Option (Fleet × List MachineSaid) → Next
after_event usage fleet number None = stops (AtMachines usage fleet) (Line number)
after_event usage fleet number (Some next) = counts usage fleet next (with_event usage)

-- what a line of this number does that says this
unfoldable pub line_step : Stage → ℕ → ScriptLine → Next
line_step (AtNodes stage) number says.Blank = at_nodes (nodes.line_step stage number says.Blank)
line_step (AtNodes stage) number (says.Nodes voters spare) = at_nodes (nodes.line_step stage number (says.Nodes voters spare))
line_step (AtNodes stage) number (says.Pages machines) = opens stage number machines
line_step (AtNodes stage) number (says.Show node) = at_nodes (nodes.line_step stage number (says.Show node))
line_step (AtNodes stage) number (says.Event event aim) = at_nodes (nodes.line_step stage number (says.Event event aim))
line_step (AtMachines usage fleet) number says.Blank = stays (AtMachines usage fleet) []
line_step (AtMachines usage fleet) number (says.Nodes voters spare) = stops (AtMachines usage fleet) (Line number)
line_step (AtMachines usage fleet) number (says.Pages machines) = stops (AtMachines usage fleet) (Line number)
line_step (AtMachines usage fleet) number (says.Show machine) = shows usage fleet number (standing_of fleet machine)
line_step (AtMachines usage fleet) number (says.Event event aim) = after_event usage fleet number (applies fleet event)

abbrev pub said_step : Stage → ℕ → Option ScriptLine → Next
said_step stage number None = stops stage (Line number)
said_step stage number (Some line) = line_step stage number line

-- the same for the bytes of a line; a script has no more than a million lines
unfoldable pub step : Stage → ℕ → List ℕ → Next
step stage number line = if nat_le number line_count_limit then said_step stage number (line_of line) else stops stage Large

-- A run: what is said, in order; the fault at which it ends, if it has one; what happened at its nodes, and what a node did that isn't
-- in it, as it says too much; and what is noted that the script doesn't say. Among state machines nothing happens at nodes, and nothing is noted.
pub record Run : Type 0 where
  pub said : List Said
  pub fault : Option Fault
  pub turns : List Turn
  pub over : Option Turn
  pub journal : List Item

abbrev pub turns_at : Stage → List Turn
turns_at (AtNodes stage) = nodes.turns_at stage
turns_at (AtMachines usage fleet) = []

abbrev pub over_at : Stage → Option Turn
over_at (AtNodes stage) = nodes.over_at stage
over_at (AtMachines usage fleet) = None

abbrev pub journal_at : Stage → List Item
journal_at (AtNodes stage) = nodes.journal_at stage
journal_at (AtMachines usage fleet) = []

-- a run that ends here
abbrev pub ends_at : Stage → List Said → Option Fault → Run
ends_at stage said fault = record { said = said; fault = fault; turns = turns_at stage; over = over_at stage; journal = journal_at stage }

abbrev pub said_before : List Said → Run → Run
said_before said run = record { said = said ++ run.said; fault = run.fault; turns = run.turns; over = run.over; journal = run.journal }

-- at the end of a script all are shown
abbrev pub closing : Stage → List Said
closing (AtNodes stage) = map OfNodes (nodes.closing stage)
closing (AtMachines usage fleet) = map OfMachines (standings 1 fleet.machines)

abbrev pub onward : (Stage → Run) → Next → Option Fault → Run
onward go next None = said_before next.said (go next.stage)
onward go next (Some fault) = ends_at next.stage next.said (Some fault)

-- the run of these lines from a stage on, the first of which has this number
abbrev pub run_from : Stage → ℕ → List (List ℕ) → Run
run_from stage number [] = ends_at stage (closing stage) None
run_from stage number (line ∷ lines) = onward (λ (s : Stage). run_from s (suc number) lines) (step stage number line) (step stage number line).fault

-- the run that a script makes with what came of its events at nodes
abbrev pub run : List ℕ → List Outcome → Run
run script outcomes = run_from (AtNodes (nodes.Opening outcomes)) 1 (lines_of script)

-- the line that is printed for what was said
abbrev pub printed_line : Said → List ℕ
printed_line (OfNodes say) = nodes_text.printed_line say
printed_line (OfMachines say) = pages_text.printed_line say

abbrev pub text_of : List Said → List ℕ
text_of said = flat_map printed_line said

-- the text that a run prints
abbrev pub printed : Run → List ℕ
printed run = text_of run.said ++ fault_text run.fault
