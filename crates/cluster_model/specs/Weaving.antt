-- How the entries of transactions are in the logs of all nodes, as sessions see them.
use Rattle.std.specs.Prelude.{◌≡◌, ℕ, true, List}
use Rattle.session_spec.specs.Seen.{log_seen}
use Rattle.session_safety.specs.Woven.{Woven}
use Rattle.raft_spec.specs.Log as raft
use Rattle.raft_safety.specs.Members.{Setup}
use Rattle.raft_safety.specs.World.{Event, start, run}
use Rattle.raft_safety.specs.Laws.{log_at}
use Rattle.raft_safety.specs.Chosen.{actor, chosen}
use Rattle.raft_safety.specs.Sources.{midway}
use Rattle.raft_safety.specs.Properties.{EventKeeps, EventsKeep}

-- the entries of each transaction are in one piece in a log of Raft
abbrev pub IsWoven : List raft.Entry → Type 0
IsWoven log = Woven (log_seen log)

-- If each proposal of a leader keeps its log woven, all logs of all nodes are woven, at all times.
abbrev pub LogsWeave : Type 0
LogsWeave = (setup : Setup) (events : List Event) → EventsKeep IsWoven setup (start setup) events → (n : ℕ) → IsWoven (log_at setup events n)

-- So they are after each step of each event.
abbrev pub LogsWeaveMidway : Type 0
LogsWeaveMidway =
    (setup : Setup) (events : List Event) (e : Event) → EventsKeep IsWoven setup (start setup) events → EventKeeps IsWoven setup (run setup events) e →
    ((run setup events).nodes (actor e)).up ≡ true → (k : ℕ) → IsWoven (midway setup (run setup events) e k).log

-- And so are the chosen entries.
abbrev pub ChosenWeaves : Type 0
ChosenWeaves = (setup : Setup) (events : List Event) → EventsKeep IsWoven setup (start setup) events → IsWoven (chosen setup events)
