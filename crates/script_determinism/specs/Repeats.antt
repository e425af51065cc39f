-- Two runs of one script whose nodes do what is decided by what they are asked.
use Rattle.std.specs.Prelude.{◌≡◌, ◌≢◌, ℕ, List, ◌++◌, Option, Some}
use Rattle.script_cluster.specs.Outcomes.{Outcome, Turn}
use Rattle.script_cluster.specs.Knowing.{outcomes_in, outcomes_over, with_over}
use Rattle.script_cluster.specs.Run.{Fault, Untold}
use Rattle.script_runner.specs.Ending.{IsBeside}
use Rattle.script_runner.specs.Run.{Run, run, printed}
use Rattle.script_determinism.specs.Plain.{plain_turns, plain_items}
use Rattle.script_determinism.specs.Nodes.{Nodes, AreLed, AreExact, MayCrash}

-- Both say the same, with the same fault, and the same happened and was noted except for the numbers of
-- transactions.
pub record AreAlike (one other : Run) : Type 0 where
  pub said : one.said ≡ other.said
  pub fault : one.fault ≡ other.fault
  pub turns : plain_turns one.turns ≡ plain_turns other.turns
  pub journal : plain_items one.journal ≡ plain_items other.journal

-- In all that nodes do in it, also if that isn't in the run, each does what it does, and all goes well.
abbrev pub IsLed : Nodes → Run → Type 0
IsLed nodes r = AreLed nodes (with_over r.turns r.over)

-- the one list begins with the other
abbrev pub StartWith : {A : Type 0} → List A → List A → Type 0
StartWith {A} said front = (rest : List A) × (said ≡ front ++ rest)

-- One doesn't learn what came of an event, and has said a front of what the other says.
pub record EndsBefore (one other : Run) : Type 0 where
  pub early : one.fault ≡ Some Untold
  pub front : StartWith other.said one.said

-- Two runs of a script: they are alike, or one ends before the other.
pub data Compared (one other : Run) : Type 0 where
  Same : AreAlike one other → Compared one other
  Shorter : EndsBefore one other → Compared one other
  Longer : EndsBefore other one → Compared one other

-- ---- the laws

-- This holds for any two runs of one script, whatever their outcomes, whose turns are those of these nodes.
abbrev pub RunsCompare : Nodes → Type 0
RunsCompare nodes =
    AreExact nodes → (script : List ℕ) (one other : List Outcome) → IsLed nodes (run script one) → IsLed nodes (run script other) →
    Compared (run script one) (run script other)

-- a run that learned what came of each event
abbrev pub IsWhole : Option Fault → Type 0
IsWhole fault = fault ≢ Some Untold

-- A run that doesn't learn all prints a front of what a whole one prints, as it would where memory or the output ended it there.
abbrev pub FrontsRepeat : Nodes → Type 0
FrontsRepeat nodes =
    AreExact nodes → (script : List ℕ) (one other : List Outcome) → IsLed nodes (run script one) → IsLed nodes (run script other) →
    IsWhole (run script other).fault → StartWith (printed (run script other)) (printed (run script one))

-- A run that broke off, of which these turns are known, and what a node did that isn't among them: no other outcomes came.
pub record BrokeOff (nodes : Nodes) (script : List ℕ) (outcomes : List Outcome) : Type 0 where
  pub turns : List Turn
  pub over : Option Turn
  pub led : AreLed nodes (with_over turns over)
  pub uses : outcomes_in turns ++ outcomes_over over ≡ outcomes
  pub begins : StartWith (run script outcomes).turns turns
  pub beside : IsBeside turns over (run script outcomes)

-- It prints a front of what a whole one prints.
abbrev pub BrokenRunsRepeat : Nodes → Type 0
BrokenRunsRepeat nodes =
    AreExact nodes → MayCrash nodes → (script : List ℕ) (one other : List Outcome) → BrokeOff nodes script one → IsLed nodes (run script other) →
    IsWhole (run script other).fault → StartWith (printed (run script other)) (printed (run script one))

-- Two that are whole print the same, and have the same fault.
abbrev pub WholeRunsRepeat : Nodes → Type 0
WholeRunsRepeat nodes =
    AreExact nodes → (script : List ℕ) (one other : List Outcome) → IsLed nodes (run script one) → IsLed nodes (run script other) →
    IsWhole (run script one).fault → IsWhole (run script other).fault →
    (printed (run script one) ≡ printed (run script other)) × ((run script one).fault ≡ (run script other).fault)
