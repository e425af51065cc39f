-- In a safe script each request of a connection that stays open is answered once, and in its order.
use Rattle.std.specs.Prelude.{◌≡◌, ◌≢◌, ℕ, Some, [], ◌∷◌, ◌++◌, List}
use Rattle.sql_engine.specs.declared.kind.EngineKind.{EngineKind}
use Rattle.sql_engine.specs.Meanings.{Meaning}
use Rattle.session_spec.specs.Sessions.{Reply, Job}
use Rattle.session_safety.specs.Answering.{IsOpen}
use Rattle.raft_spec.specs.Node.{LocalEvent}
use Rattle.raft_safety.specs.Members.{Setup}
use Rattle.node_spec.specs.Nodes.{Node}
use Rattle.node_spec.specs.Steps.{Letter}
use Rattle.cluster_safety.specs.Laws.{Completed}
use Rattle.cluster_safety.specs.Runs.{Up, Comes, Goes, Event, joins_in, first_run, run}
use Rattle.script_cluster.specs.Outcomes.{Turn}
use Rattle.script_safety.specs.Laws.{IsSafe}
use Rattle.script_safety.specs.Turns.{events_of}

-- By each call of a node: what is asked on a connection that is open after it, and didn't come by it, is answered in the call, once each,
-- except for what waits for an entry that the node, still leading its term, hasn't applied, or for a reader.
abbrev pub IsComplete : (m : Meaning) (kind : EngineKind) (setup : Setup) (turns : List Turn) → IsSafe m kind setup turns → Type 0
IsComplete m kind setup turns safe =
    (events rest : List Event) (n : ℕ) (came : Comes) (added : List LocalEvent) (new : Node) (letters : List Letter) (replies : List (ℕ × Reply))
    (jobs : List (ℕ × Job)) (conn : ℕ) →
    events_of m kind setup first_run turns safe.is ≡ (events ++ Goes n came added new letters replies jobs ∷ []) ++ rest →
    IsOpen (new.sessions.session conn) → joins_in came ≢ Some conn →
    (old : Node) × ((run events).places n ≡ Up old) × Completed conn old new came replies

-- This holds in each script that is safe.
abbrev pub ScriptsAreComplete : Meaning → EngineKind → Type 0
ScriptsAreComplete m kind = (setup : Setup) (turns : List Turn) (safe : IsSafe m kind setup turns) → IsComplete m kind setup turns safe
