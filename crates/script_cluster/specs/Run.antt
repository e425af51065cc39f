-- The run that a script of nodes makes with what came of its events, and the text that it prints.
use Rattle.std.specs.Prelude.{ℕ, suc, List, [], ◌∷◌, ◌++◌, codes, nat_le, Option, Some, None, if◌then◌else◌}
use Rattle.std.specs.Option.{option_map}
use Rattle.std.specs.Fmt.{decimal}
use Rattle.script_grammar.specs.ScriptSize.{line_count_limit}
use Rattle.script_grammar.specs.Lines.{lines_of}
use Rattle.script_grammar.specs.Grammar.{line_of}
use Rattle.script_grammar.specs.declared.grammar.ScriptLine.{ScriptLine}
use Rattle.script_grammar.specs.declared.grammar.ScriptLine.TheVariants as says
use Rattle.script_cluster.specs.declared.cluster_line.ClusterLine.{ClusterLine}
use Rattle.script_cluster.specs.Outcomes.{Outcome, Turn, Item}
use Rattle.script_cluster.specs.World as world
use Rattle.script_cluster.specs.World.{World, Halt, Went, takes, opened, shown, all_shown}
use Rattle.script_cluster.specs.Printed.{printed as text_of}

-- if a script is: before its mode line, with what is to come of events; or among its nodes
pub data Stage : Type 0 where
  Opening : List Outcome → Stage
  Within : World → Stage

-- why a run ends before its script does: this line isn't in the grammar there; there are too many lines, events or bytes of messages;
-- or it isn't told what came of an event
pub data Fault : Type 0 where
  Line : ℕ → Fault
  Large : Fault
  Untold : Fault

-- where a line leads, what is said, and why the run ends there, if it does
pub record Next : Type 0 where
  pub stage : Stage
  pub said : List ClusterLine
  pub fault : Option Fault

abbrev pub fault_by : ℕ → Halt → Fault
fault_by number world.NotThere = Line number
fault_by number world.TooMany = Large
fault_by number world.Untold = Untold

-- if the line of this number led
abbrev pub next_by : ℕ → Went → Next
next_by number went = record { stage = Within went.world; said = went.said; fault = option_map (fault_by number) went.halt }

abbrev pub stays : Stage → List ClusterLine → Next
stays stage said = record { stage = stage; said = said; fault = None }

abbrev pub stops : Stage → Fault → Next
stops stage fault = record { stage = stage; said = []; fault = Some fault }

-- showing changes nothing
abbrev pub shows : Stage → ℕ → Option ClusterLine → Next
shows stage number None = stops stage (Line number)
shows stage number (Some say) = stays stage (say ∷ [])

-- what a line of this number does that says this
unfoldable pub line_step : Stage → ℕ → ScriptLine → Next
line_step stage number says.Blank = stays stage []
line_step (Opening outcomes) number (says.Nodes voters spare) = next_by number (opened voters spare outcomes)
line_step (Opening outcomes) number (says.Pages machines) = stops (Opening outcomes) (Line number)
line_step (Opening outcomes) number (says.Show node) = stops (Opening outcomes) (Line number)
line_step (Opening outcomes) number (says.Event event aim) = stops (Opening outcomes) (Line number)
line_step (Within w) number (says.Nodes voters spare) = stops (Within w) (Line number)
line_step (Within w) number (says.Pages machines) = stops (Within w) (Line number)
line_step (Within w) number (says.Show node) = shows (Within w) number (shown w node)
line_step (Within w) number (says.Event event aim) = next_by number (takes w event aim)

abbrev pub said_step : Stage → ℕ → Option ScriptLine → Next
said_step stage number None = stops stage (Line number)
said_step stage number (Some line) = line_step stage number line

-- the same for the bytes of a line; a script has no more than a million lines
unfoldable pub step : Stage → ℕ → List ℕ → Next
step stage number line = if nat_le number line_count_limit then said_step stage number (line_of line) else stops stage Large

-- A run: what is said, in order; the fault at which it ends, if it has one; what happened at its nodes; and what is noted that the
-- script doesn't say.
pub record Run : Type 0 where
  pub said : List ClusterLine
  pub fault : Option Fault
  pub turns : List Turn
  pub journal : List Item

abbrev pub turns_at : Stage → List Turn
turns_at (Opening outcomes) = []
turns_at (Within w) = w.turns

-- what a node did there that isn't in the run
abbrev pub over_at : Stage → Option Turn
over_at (Opening outcomes) = None
over_at (Within w) = w.over

abbrev pub journal_at : Stage → List Item
journal_at (Opening outcomes) = []
journal_at (Within w) = w.journal

-- a run that ends here
abbrev pub ends_at : Stage → List ClusterLine → Option Fault → Run
ends_at stage said fault = record { said = said; fault = fault; turns = turns_at stage; journal = journal_at stage }

abbrev pub said_before : List ClusterLine → Run → Run
said_before said run = record { said = said ++ run.said; fault = run.fault; turns = run.turns; journal = run.journal }

-- at the end of a script all are shown
abbrev pub closing : Stage → List ClusterLine
closing (Opening outcomes) = []
closing (Within w) = all_shown w

abbrev pub onward : (Stage → Run) → Next → Option Fault → Run
onward go next None = said_before next.said (go next.stage)
onward go next (Some fault) = ends_at next.stage next.said (Some fault)

-- the run of these lines from a stage on, the first of which has this number
abbrev pub run_from : Stage → ℕ → List (List ℕ) → Run
run_from stage number [] = ends_at stage (closing stage) None
run_from stage number (line ∷ lines) = onward (λ (s : Stage). run_from s (suc number) lines) (step stage number line) (step stage number line).fault

-- the run that a script makes with what came of its events at nodes
abbrev pub run : List ℕ → List Outcome → Run
run script outcomes = run_from (Opening outcomes) 1 (lines_of script)

-- what is printed of a script's fault
abbrev pub fault_text : Option Fault → List ℕ
fault_text None = []
fault_text (Some (Line number)) = codes "error line " ++ (decimal number ++ codes "\n")
fault_text (Some Large) = codes "error large\n"
fault_text (Some Untold) = []

-- the text that a run prints
abbrev pub printed : Run → List ℕ
printed run = text_of run.said ++ fault_text run.fault
