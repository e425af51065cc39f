-- Where a script of either mode is as the code has it, and what a line leads to there.
use Rattle.std.specs.Prelude.{◌≡◌, ◌++◌, ℕ, List, [], map, Option, Some, None, Result, Ok, Err}
use Rattle.script_grammar.specs.declared.faults.EventFault.{EventFault}
use Rattle.script_grammar.specs.declared.faults.EventFault.TheVariants as faults
use Rattle.script_grammar.specs.declared.grammar.ScriptLine.{ScriptLine}
use Rattle.script_grammar.specs.declared.grammar.ScriptLine.TheVariants as says
use Rattle.script_grammar.specs.declared.usage.Usage.{Usage}
use Rattle.script_cluster.specs.Outcomes.{Outcome, Item, Turn}
use Rattle.script_cluster.specs.World.{Place}
use Rattle.script_cluster.specs.Knowing.{Knowing, Told, outcomes_in, outcomes_over}
use Rattle.script_machines.specs.Machines.{Fleet, fleet_of}
use Rattle.script_runner.specs.declared.said.LineSaid.{LineSaid}
use Rattle.script_runner.specs.declared.said.LineSaid.TheVariants as said
use Rattle.script_runner.specs.declared.script_mode.ScriptMode.{ScriptMode}
use Rattle.script_runner.specs.declared.script_mode.ScriptMode.TheVariants as scene
use Rattle.script_runner.specs.Stages as stages
use Rattle.script_runner.specs.Stages.{Stands, stands}
use Rattle.script_cluster.specs.Run.{Fault, Line, Large}
use Rattle.script_runner.specs.Run.{Said, OfNodes, OfMachines, Stage, AtNodes, AtMachines, Next, closing, journal_at, turns_at, over_at}

-- what is held of a script: of its nodes, or of its state machines
pub data Holds (P : Type 0) : Type 0 where
  Nodes : Stands P → Holds P
  Machines : Usage → Fleet → Holds P

abbrev pub holds : {P : Type 0} → (P → Place) → ScriptMode P → Holds P
holds shows (scene.Nodes stage) = Nodes (stands shows stage)
holds shows (scene.Machines machines usage) = Machines usage (fleet_of machines)

-- the stage of these, after these turns of nodes, with this to come of the events at nodes
abbrev pub stage_of : {P : Type 0} → Holds P → List Turn → List Outcome → Stage
stage_of (Nodes s) turns outcomes = AtNodes (stages.stage_of s turns outcomes)
stage_of (Machines usage fleet) turns outcomes = AtMachines usage fleet

-- what is noted so far
abbrev pub journal_of : {P : Type 0} → Holds P → List Item
journal_of (Nodes s) = stages.journal_of s
journal_of (Machines usage fleet) = []

-- how all stand
abbrev pub closing_of : {P : Type 0} → Holds P → List Said
closing_of h = closing (stage_of h [] [])

-- the turns of a run that is here, after these
abbrev pub turns_of : {P : Type 0} → Holds P → List Turn → List Turn
turns_of h earlier = turns_at (stage_of h earlier [])

-- each place has been led to by the turns of its node among these; among state machines there is none
abbrev pub Known : {P : Type 0} → Knowing P → Holds P → List Turn → Type 0
Known knows (Nodes s) turns = stages.Known knows s turns
Known knows (Machines usage fleet) turns = Unit {0}

-- what was said by a line
abbrev pub said_in : LineSaid → List Said
said_in (said.Nodes all) = map OfNodes all.items
said_in (said.Machines all) = map OfMachines all.items

-- how many state machines a line opens, if it is the mode line of state machines
abbrev pub machines_in : ScriptLine → Option ℕ
machines_in says.Blank = None
machines_in (says.Nodes voters spare) = None
machines_in (says.Pages machines) = Some machines
machines_in (says.Show number) = None
machines_in (says.Event event aim) = None

-- Something was done: these outcomes came of its events. With them at the front of what is to come it leads here, and this was said; and
-- places that were led to by the turns of their nodes are led on.
pub record Goes {P : Type 0} (knows : Knowing P) (go : Stage → Next) (old new : Holds P) (now : List Said) : Type 0 where
  pub outcomes : List Outcome
  pub turns : List Turn → List Turn
  pub goes : (earlier : List Turn) (later : List Outcome)
      → go (stage_of old earlier (outcomes ++ later)) ≡ record { stage = stage_of new (turns earlier) later; said = now; fault = None }
  pub know : (earlier : List Turn) → Known knows old earlier → Known knows new (turns earlier)
  pub uses : (earlier : List Turn) → outcomes_in (turns_of new (turns earlier)) ≡ outcomes_in (turns_of old earlier) ++ outcomes

-- it ended there for this fault, after these turns, when this was noted, and this said
pub record EndsAt (fault : Fault) (journal : List Item) (said : List Said) (turns : List Turn) (over : Option Turn) (next : Next) : Type 0 where
  pub fault_is : next.fault ≡ Some fault
  pub said_is : next.said ≡ said
  pub journal_is : journal_at next.stage ≡ journal
  pub turns_are : turns_at next.stage ≡ turns
  pub over_is : over_at next.stage ≡ over

pub record Ends {P : Type 0} (knows : Knowing P) (go : Stage → Next) (fault : Fault) (old new : Holds P) (now : List Said) : Type 0 where
  pub outcomes : List Outcome
  pub turns : List Turn → List Turn
  pub over : Option Turn
  pub ends : (earlier : List Turn) (later : List Outcome) → EndsAt fault (journal_of new) now (turns earlier) over (go (stage_of old earlier (outcomes ++ later)))
  pub told : (earlier : List Turn) → Known knows old earlier → Told knows (turns earlier) over
  pub uses : (earlier : List Turn) → outcomes_in (turns earlier) ++ outcomes_over over ≡ outcomes_in (turns_of old earlier) ++ outcomes

-- what a line of this number did by its answer; after out of memory nothing is reported
abbrev pub DoesLine : {P T : Type 0} → Knowing P → ℕ → (Stage → Next) → Result T EventFault → Holds P → Holds P → List Said → Type 0
DoesLine knows number go (Ok x) old new now = Goes knows go old new now
DoesLine knows number go (Err faults.NotThere) old new now = Ends knows go (Line number) old new now
DoesLine knows number go (Err faults.TooMany) old new now = Ends knows go Large old new now
DoesLine knows number go (Err faults.NoMemory) old new now = Unit {0}
DoesLine knows number go (Err faults.Internal) old new now = Unit {0}
