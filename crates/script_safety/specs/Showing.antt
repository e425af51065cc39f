-- How nodes are shown at a moment of a script, and that those which have applied as many entries are shown with the same files.
use Rattle.std.specs.Prelude.{◌≡◌, ℕ, ◌==◌, cond, List, [], ◌∷◌, Option, Some, None}
use Rattle.sql_engine.specs.declared.kind.EngineKind.{EngineKind}
use Rattle.sql_engine.specs.Meanings.{Meaning}
use Rattle.raft_safety.specs.Members.{Setup}
use Rattle.cluster_safety.specs.Runs.{first_run}
use Rattle.script_cluster.specs.Outcomes.{Standing, Ending, Steps, Starts, Stops, Fails, Unreadable, Turn, Does, Crashes}
use Rattle.script_safety.specs.Turns.{actor, AreRun}

-- how a node is after what ended so; it is down where that didn't end well
abbrev pub standing_by : Ending → Option Standing
standing_by (Steps outs standing) = Some standing
standing_by (Starts kept standing) = Some standing
standing_by (Stops keeps) = None
standing_by (Fails keeps) = None
standing_by Unreadable = None

abbrev pub standing_in : Turn → Option Standing
standing_in (Does n doing aim outcome) = standing_by outcome.ending
standing_in (Crashes n pick) = None

-- how it is after these turns, if it was so before
abbrev pub stands_from : ℕ → Option Standing → List Turn → Option Standing
stands_from n before [] = before
stands_from n before (turn ∷ turns) = stands_from n (cond (actor turn == n) (standing_in turn) before) turns

-- a node that hasn't been started doesn't stand
abbrev pub stands : ℕ → List Turn → Option Standing
stands n turns = stands_from n None turns

-- Two nodes that have applied as many entries have the same files.
abbrev pub ShownAlike : Meaning → EngineKind → Type 0
ShownAlike m kind =
    (setup : Setup) (turns : List Turn) (n k : ℕ) (a b : Standing) → AreRun m kind setup first_run turns → stands n turns ≡ Some a → stands k turns ≡ Some b →
    a.applied ≡ b.applied → a.databases ≡ b.databases
