-- That what whole nodes do in a script is a run, and what follows.
use Rattle.std.specs.Prelude.{◌≡◌, ◌≢◌, ℕ, false, Some, [], List, ◌++◌}
use Rattle.std.specs.List.{AllByRecursion}
use Rattle.sql_engine.specs.declared.kind.EngineKind.{EngineKind}
use Rattle.sql_engine.specs.Meanings.{Meaning}
use Rattle.session_spec.specs.Entries.{Entry as Line}
use Rattle.session_safety.specs.Nodes.{Said}
use Rattle.raft_safety.specs.Members.{Setup}
use Rattle.cluster_safety.specs.Acts.{NotStarted, NotJoined, asked}
use Rattle.cluster_safety.specs.Laws.{SafeRun, SafeLater}
use Rattle.cluster_safety.specs.Runs.{Run, first_run, run, run_from, AllHold}
use Rattle.script_cluster.specs.Outcomes.{Turn}
use Rattle.script_safety.specs.Turns.{actor, is_start, joins_of, asks_of, NodesDo, AreRun, events_of, AllLoad}

-- What whole nodes do is a run, turn by turn.
abbrev pub TurnsAreRuns : Meaning → EngineKind → Type 0
TurnsAreRuns m kind = (setup : Setup) (turns : List Turn) → NodesDo m kind setup turns → AreRun m kind setup first_run turns

-- The clauses of all its events hold.
abbrev pub RunsHold : Meaning → EngineKind → Type 0
RunsHold m kind =
    (setup : Setup) (turns : List Turn) (is : AreRun m kind setup first_run turns) → AllHold m kind setup first_run (events_of m kind setup first_run turns is)

-- A script is safe: what came of its events is a run of whole nodes, turn by turn, the run is safe, and no load fails in it.
pub record IsSafe (m : Meaning) (kind : EngineKind) (setup : Setup) (turns : List Turn) : Type 0 where
  pub is : AreRun m kind setup first_run turns
  pub holds : AllHold m kind setup first_run (events_of m kind setup first_run turns is)
  pub chosen : List Line
  pub said : List Said
  pub safe : SafeRun m setup (run (events_of m kind setup first_run turns is)) chosen said
  pub loads : AllLoad turns

abbrev pub NodesAreSafe : Meaning → EngineKind → Type 0
NodesAreSafe m kind = (setup : Setup) (turns : List Turn) → NodesDo m kind setup turns → IsSafe m kind setup turns

-- This holds at each moment, and at a later one: what was chosen and said stays, and the rest of what holds of a run at two moments.
pub record IsSafeLater (m : Meaning) (kind : EngineKind) (setup : Setup) (turns more : List Turn) : Type 0 where
  pub is : AreRun m kind setup first_run turns
  pub rest : AreRun m kind setup (run_from first_run (events_of m kind setup first_run turns is)) more
  pub safe : SafeLater m setup (events_of m kind setup first_run turns is)
      (events_of m kind setup (run_from first_run (events_of m kind setup first_run turns is)) more rest)

abbrev pub LatersAreSafe : Meaning → EngineKind → Type 0
LatersAreSafe m kind = (setup : Setup) (turns more : List Turn) → AreRun m kind setup first_run (turns ++ more) → IsSafeLater m kind setup turns more

-- ---- what turns bring

-- the node isn't started in these turns; the connection doesn't come to it; no bytes come on it there
abbrev pub NoneStarts : ℕ → List Turn → Type 0
NoneStarts k turns = AllByRecursion (λ turn. k ≡ actor turn → is_start turn ≡ false) turns

abbrev pub NoneJoins : ℕ → ℕ → List Turn → Type 0
NoneJoins k conn turns = AllByRecursion (λ turn. k ≡ actor turn → joins_of turn ≢ Some conn) turns

abbrev pub NoneAsk : ℕ → ℕ → List Turn → Type 0
NoneAsk k conn turns = AllByRecursion (λ turn. k ≡ actor turn → asks_of turn ≢ Some conn) turns

-- This holds in their run: what holds of a node that isn't started meanwhile, and of a connection that stays, holds of the script's.
abbrev pub TurnsBring : Meaning → EngineKind → Type 0
TurnsBring m kind =
    (setup : Setup) (r : Run) (turns : List Turn) (is : AreRun m kind setup r turns) (k : ℕ) →
    (NoneStarts k turns → NotStarted k (events_of m kind setup r turns is))
    × ((conn : ℕ) → NoneJoins k conn turns → NotJoined k conn (events_of m kind setup r turns is))
    × ((conn : ℕ) → NoneAsk k conn turns → asked k conn (events_of m kind setup r turns is) ≡ [])
