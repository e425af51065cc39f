-- With engines of cells a script alone decides what is said.
use Rattle.std.specs.Prelude.{◌≡◌, ◌++◌, ℕ, List, Option}
use Rattle.std.specs.List.{AllByRecursion}
use Rattle.sql_engine.specs.declared.kind.EngineKind.TheVariants.{Cells}
use Rattle.sql_engine.specs.Cells.{cells}
use Rattle.script_cluster.specs.Knowing.{outcomes_in, outcomes_over, with_over}
use Rattle.script_cluster.specs.Outcomes.{Ending, Steps, Starts, Stops, Fails, Unreadable, Outcome, Turn, Does, Crashes}
use Rattle.script_runner.specs.Ending.{IsBeside}
use Rattle.script_runner.specs.Run.{run, printed}
use Rattle.script_safety.specs.Mails.{ByNodes, OverByNode}
use Rattle.script_safety.specs.Slots.{setup_of}
use Rattle.script_determinism.specs.Nodes.{IsAmple}
use Rattle.script_determinism.specs.Repeats.{Compared, IsWhole, StartWith}

-- No call of the disk stopped or failed. That what was kept doesn't load, which is no failed call, needs no word: it never comes.
abbrev pub NoneFailed : Ending → Type 0
NoneFailed (Steps outs standing) = Unit {0}
NoneFailed (Starts kept standing) = Unit {0}
NoneFailed Unreadable = Unit {0}
NoneFailed (Stops keeps) = ⊥
NoneFailed (Fails keeps) = ⊥

-- and the engine wanted no memory
pub record IsUntroubled (outcome : Outcome) : Type 0 where
  pub ends : NoneFailed outcome.ending
  pub ample : AllByRecursion IsAmple outcome.answers

-- so of a turn; a crash is neither
abbrev pub GoesUntroubled : Turn → Type 0
GoesUntroubled (Does n doing aim outcome) = IsUntroubled outcome
GoesUntroubled (Crashes n pick) = Unit {0}

-- A run over whole nodes with engines of cells, in which no call of a disk stopped or failed, and no engine wanted memory; also the last event,
-- if it isn't in the run.
pub record IsOfCells (script : List ℕ) (outcomes : List Outcome) : Type 0 where
  pub voters : ℕ
  pub nodes : ByNodes cells Cells (setup_of voters) (run script outcomes).turns
  pub last : OverByNode cells Cells (setup_of voters) (run script outcomes).turns (run script outcomes).over
  pub well : AllByRecursion GoesUntroubled (with_over (run script outcomes).turns (run script outcomes).over)

-- Two of these runs of one script are alike, or one of them doesn't learn what came of an event and has said a front of what the other says.
abbrev pub CellScriptsCompare : Type 0
CellScriptsCompare = (script : List ℕ) (one other : List Outcome) → IsOfCells script one → IsOfCells script other → Compared (run script one) (run script other)

-- One that doesn't learn all prints a front of what one prints that is.
abbrev pub CellFrontsRepeat : Type 0
CellFrontsRepeat =
    (script : List ℕ) (one other : List Outcome) → IsOfCells script one → IsOfCells script other → IsWhole (run script other).fault →
    StartWith (printed (run script other)) (printed (run script one))

-- A run that broke off, over whole nodes with engines of cells, of which these turns are known, and what a node did that isn't among them.
pub record BrokeOffCells (script : List ℕ) (outcomes : List Outcome) : Type 0 where
  pub turns : List Turn
  pub over : Option Turn
  pub voters : ℕ
  pub nodes : ByNodes cells Cells (setup_of voters) turns
  pub last : OverByNode cells Cells (setup_of voters) turns over
  pub well : AllByRecursion GoesUntroubled (with_over turns over)
  pub uses : outcomes_in turns ++ outcomes_over over ≡ outcomes
  pub begins : StartWith (run script outcomes).turns turns
  pub beside : IsBeside turns over (run script outcomes)

-- It prints a front of what one prints that learned all.
abbrev pub CellBrokenRepeat : Type 0
CellBrokenRepeat =
    (script : List ℕ) (one other : List Outcome) → BrokeOffCells script one → IsOfCells script other → IsWhole (run script other).fault →
    StartWith (printed (run script other)) (printed (run script one))

-- Two that learned all print the same and have the same fault.
abbrev pub CellScriptsRepeat : Type 0
CellScriptsRepeat =
    (script : List ℕ) (one other : List Outcome) → IsOfCells script one → IsOfCells script other →
    IsWhole (run script one).fault → IsWhole (run script other).fault →
    (printed (run script one) ≡ printed (run script other)) × ((run script one).fault ≡ (run script other).fault)
