-- Scripts in which no call of a disk stopped or failed and each start loaded.
use Rattle.std.specs.Prelude.{◌≡◌, List, ◌++◌, Option, ℕ}
use Rattle.std.specs.List.{AllByRecursion}
use Rattle.sql_engine.specs.declared.kind.EngineKind.{EngineKind}
use Rattle.sqlite_engine.specs.Any.{any_meaning}
use Rattle.script_cluster.specs.Outcomes.{Outcome, Ending, Steps, Starts, Stops, Fails, Unreadable, Turn, Does, Crashes}
use Rattle.script_cluster.specs.Run.{run}
use Rattle.script_safety.specs.Laws.{IsSafe}
use Rattle.script_safety.specs.Slots.{setup_of}
use Rattle.script_whole_nodes.specs.Safe.{AllLive, IsFairTo, AreOfNodes}

-- The step or the start was completed, so the script prints neither `stopped N` nor `down N C` of it.
abbrev pub EndsWell : Ending → Type 0
EndsWell (Steps outs standing) = Unit {0}
EndsWell (Starts kept standing) = Unit {0}
EndsWell (Stops keeps) = ⊥
EndsWell (Fails keeps) = ⊥
EndsWell Unreadable = ⊥

-- No call of a disk stopped or failed in it. A crash between two events is no failure.
abbrev pub HasNoFall : Turn → Type 0
HasNoFall (Does n doing aim outcome) = EndsWell outcome.ending
HasNoFall (Crashes n pick) = Unit {0}

abbrev pub NoneFalls : List Turn → Type 0
NoneFalls turns = AllByRecursion HasNoFall turns

-- Up to a turn before which none falls, no checksum matched by chance in what a start found, whatever the disks are said to have had.
abbrev pub UnfallenAreFair : EngineKind → Type 0
UnfallenAreFair kind = (voters : ℕ) (turns : List Turn) (lives : AllLive kind voters turns) (front rest : List Turn) → turns ≡ front ++ rest →
    NoneFalls front → IsFairTo kind voters turns lives front

-- So a script is safe up to this turn, without a premise about checksums.
abbrev pub UnfallenScriptsAreSafe : EngineKind → Type 0
UnfallenScriptsAreSafe kind =
    (script : List ℕ) (outcomes : List Outcome) (over : Option Turn) (of : AreOfNodes kind (run script outcomes).turns over) (front rest : List Turn) →
    (run script outcomes).turns ≡ front ++ rest → NoneFalls front → IsSafe (any_meaning kind) kind (setup_of of.voters) front
