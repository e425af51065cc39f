-- Where a script is as the code has it, and what a line leads to there.
use Rattle.std.specs.Prelude.{◌≡◌, ◌++◌, ℕ, Bool, true, false, List, [], Option, Some, None, Result, Ok, Err}
use Rattle.script_grammar.specs.declared.faults.EventFault.{EventFault}
use Rattle.script_grammar.specs.declared.faults.EventFault.TheVariants as faults
use Rattle.script_grammar.specs.declared.grammar.ScriptLine.{ScriptLine}
use Rattle.script_grammar.specs.declared.grammar.ScriptLine.TheVariants as says
use Rattle.script_cluster.specs.declared.cluster_line.ClusterLine.{ClusterLine}
use Rattle.script_cluster.specs.Outcomes.{Outcome, Item, Turn}
use Rattle.script_cluster.specs.World.{Place}
use Rattle.script_cluster.specs.Holding.{Held, world_of}
use Rattle.script_cluster.specs.Knowing.{Knowing, AllKnow, Told, outcomes_in, outcomes_over}
use Rattle.script_cluster.specs.Voters.{IsVoterCount}
use Rattle.script_cluster.specs.Clusters.{held}
use Rattle.script_cluster.specs.Run as run
use Rattle.script_cluster.specs.Run.{Fault, Line, Large, Next, closing, journal_at, turns_at, over_at}
use Rattle.script_runner.specs.declared.node_script.NodeScript.{NodeScript}
use Rattle.script_runner.specs.declared.node_script.NodeScript.TheVariants as stage

-- what is held of a script: nothing before its mode line; or its nodes and what is besides them
pub data Stands (P : Type 0) : Type 0 where
  AtStart : Stands P
  AtNodes : Held P → Stands P

abbrev pub stands : {P : Type 0} → (P → Place) → NodeScript P → Stands P
stands shows (stage.Opening place) = AtStart
stands shows (stage.Within cluster) = AtNodes (held shows cluster)

-- the stage of these, after these turns, with this to come of the events
abbrev pub stage_of : {P : Type 0} → Stands P → List Turn → List Outcome → run.Stage
stage_of AtStart turns outcomes = run.Opening outcomes
stage_of (AtNodes h) turns outcomes = run.Within (world_of h turns outcomes)

-- the turns of a run that is here, after these
abbrev pub turns_of : {P : Type 0} → Stands P → List Turn → List Turn
turns_of at earlier = turns_at (stage_of at earlier [])

-- no mode line has come yet
abbrev pub is_opening : {P : Type 0} → Stands P → Bool
is_opening AtStart = true
is_opening (AtNodes h) = false

-- what is noted so far
abbrev pub journal_of : {P : Type 0} → Stands P → List Item
journal_of AtStart = []
journal_of (AtNodes h) = h.journal

-- how all stand
abbrev pub closing_of : {P : Type 0} → Stands P → List ClusterLine
closing_of s = closing (stage_of s [] [])

-- each place has been led to by the turns of its node among these
abbrev pub Known : {P : Type 0} → Knowing P → Stands P → List Turn → Type 0
Known knows AtStart turns = Unit {0}
Known knows (AtNodes h) turns = AllKnow knows h.voters h.nodes turns

-- Something was done: these outcomes came of its events. With them at the front of what is to come it leads here, and this was said; and
-- places that were led to by the turns of their nodes are led on.
pub record Goes {P : Type 0} (knows : Knowing P) (go : run.Stage → Next) (old new : Stands P) (before now : List ClusterLine) : Type 0 where
  pub outcomes : List Outcome
  pub turns : List Turn → List Turn
  pub more : List ClusterLine
  pub goes : (earlier : List Turn) (later : List Outcome)
      → go (stage_of old earlier (outcomes ++ later)) ≡ record { stage = stage_of new (turns earlier) later; said = more; fault = None }
  pub says : now ≡ before ++ more
  pub know : (earlier : List Turn) → Known knows old earlier → Known knows new (turns earlier)
  pub uses : (earlier : List Turn) → outcomes_in (turns_of new (turns earlier)) ≡ outcomes_in (turns_of old earlier) ++ outcomes

-- it ended there for this fault, after these turns, when this was noted, and this said
pub record EndsAt (fault : Fault) (journal : List Item) (said : List ClusterLine) (turns : List Turn) (over : Option Turn) (next : Next) : Type 0 where
  pub fault_is : next.fault ≡ Some fault
  pub said_is : next.said ≡ said
  pub journal_is : journal_at next.stage ≡ journal
  pub turns_are : turns_at next.stage ≡ turns
  pub over_is : over_at next.stage ≡ over

pub record Ends {P : Type 0} (knows : Knowing P) (go : run.Stage → Next) (fault : Fault) (old new : Stands P) (before now : List ClusterLine) : Type 0 where
  pub outcomes : List Outcome
  pub turns : List Turn → List Turn
  pub more : List ClusterLine
  pub over : Option Turn
  pub ends : (earlier : List Turn) (later : List Outcome) → EndsAt fault (journal_of new) more (turns earlier) over (go (stage_of old earlier (outcomes ++ later)))
  pub says : now ≡ before ++ more
  pub told : (earlier : List Turn) → Known knows old earlier → Told knows (turns earlier) over
  pub uses : (earlier : List Turn) → outcomes_in (turns earlier) ++ outcomes_over over ≡ outcomes_in (turns_of old earlier) ++ outcomes

-- a mode line of nodes has as many voters as a cluster may have
abbrev pub MayOpen : ScriptLine → Type 0
MayOpen (says.Nodes voters spare) = IsVoterCount voters
MayOpen line = Unit {0}

-- what a line of this number did by its answer; after out of memory nothing is reported
abbrev pub DoesLine : {P T : Type 0} → Knowing P → ℕ → (run.Stage → Next) → Result T EventFault → Stands P → Stands P → List ClusterLine → List ClusterLine → Type 0
DoesLine knows number go (Ok x) old new before now = Goes knows go old new before now
DoesLine knows number go (Err faults.NotThere) old new before now = Ends knows go (Line number) old new before now
DoesLine knows number go (Err faults.TooMany) old new before now = Ends knows go Large old new before now
DoesLine knows number go (Err faults.NoMemory) old new before now = Unit {0}
DoesLine knows number go (Err faults.Internal) old new before now = Unit {0}
