-- Small runs, whose clauses all hold.
use Rattle.std.specs.Prelude.{◌≡◌, ℕ, ◌==◌, List, [], ◌∷◌, length, codes, true, false, None, if◌then◌else◌}
use Rattle.dq_base.specs.Changes.{changed}
use Rattle.wire_msgs.specs.declared.request.Request.{Request}
use Rattle.wire_msgs.specs.declared.request.Request.TheVariants.{Open, ExecSql}
use Rattle.log_commands.specs.declared.command.Command.{Command}
use Rattle.log_commands.specs.declared.command.Command.TheVariants.{OpenDb, Frames}
use Rattle.database_state.specs.declared.database.Database.{Database}
use Rattle.database_state.specs.Databases.{act as act_on_databases}
use Rattle.database_state.specs.Files.{empty_image}
use Rattle.sql_engine.specs.Cells.{cells}
use Rattle.sql_engine.specs.declared.kind.EngineKind.TheVariants.{Cells}
use Rattle.sql_engine.specs.declared.kind.EngineKind.{EngineKind}
use Rattle.sql_engine.specs.Meanings.{Meaning}
use Rattle.session_spec.specs.Entries.{Content, Other, written}
use Rattle.session_spec.specs.Sessions.{Gateway, absent, no_sessions, db, result}
use Rattle.session_safety.specs.Examples as lives
use Rattle.raft_spec.specs.Node.{Server, voters, peers, Leader, Follower, Propose}
use Rattle.raft_safety.specs.Members.{Setup, fixed, voters_after}
use Rattle.store_laws.specs.Store.{no_snap}
use Rattle.cluster_model.specs.Examples.{opening, writing}
use Rattle.node_spec.specs.Nodes.{Node, first_node}
use Rattle.cluster_safety.specs.Runs.{Timeout, Connect, Asks, Hangup, Event, Goes, Crashes, Starts, nothing_kept, first_run, AllHold}

-- a lone node that was started over nothing, in a cluster that was opened with some servers, and was given others with the same voters
abbrev pub lone : List Server → List Server → Node
lone opening servers = record {
  raft = record { id = 1; term = 0; vote = 0; entries = []; role = Follower; leader = 0; commit = 0; grants = []; servers = servers; rows = []; snapshot = record { index = 0; term = 0 }; base = 0 };
  members = record { at = 0; servers = opening; later = [] };
  sessions = (first_node 1).sessions;
  waiting = λ conn. [];
  machine = [];
  serving = false;
  kept = nothing_kept;
}

-- it is started, takes in a hang-up of a connection that it doesn't have, crashes, and is started again
abbrev pub lone_events : List Server → List Server → List Event
lone_events opening servers = Starts 1 servers (lone opening servers) ∷ Goes 1 (Hangup 5) [] (lone opening servers) [] [] [] ∷ Crashes 1 ∷ Starts 1 servers (lone opening servers) ∷ []

abbrev pub LoneRuns : Meaning → EngineKind → Type 0
LoneRuns m kind = (setup : Setup) (servers : List Server) → peers servers 1 ≡ [] → voters servers ≡ voters_after setup [] → AllHold m kind setup first_run (lone_events setup.opening servers)

-- ---- an election and a write

abbrev pub only : List Server
only = record { id = 1; address = []; role = 0 } ∷ []

-- the session of connection 5, with this database
abbrev pub client : List ℕ → Gateway
client name = record { conns = 5 ∷ []; session = λ conn. if conn == 5 then record { there = true; hung = false; database = name; barriers = false; later = None; statements = []; tx = None; lost = false; flight = None } else absent; weight = 0 }

-- what is applied: a database, and a digit in its first cell
abbrev pub opens_it : Command
opens_it = OpenDb (codes "d")

unfoldable pub writes_it : Command
writes_it = Frames (codes "d") 4294967299 3 true (changed empty_image (lives.one 7))

abbrev pub opened : List Database
opened = act_on_databases [] opens_it

abbrev pub wrote : List Database
wrote = act_on_databases opened writes_it

-- the only voter, which leads term 1 and has applied these contents
abbrev pub leading : List Content → Gateway → List Database → Node
leading contents sessions machine = record {
  raft = record { id = 1; term = 1; vote = 1; entries = written 1 contents; role = Leader; leader = 1; commit = length contents; grants = 1 ∷ []; servers = only; rows = []; snapshot = record { index = 0; term = 0 }; base = 0 };
  members = record { at = 0; servers = only; later = [] };
  sessions = sessions;
  waiting = λ conn. [];
  machine = machine;
  serving = true;
  kept = record { term = 1; vote = 1; snap = no_snap; log = record { first = 1; entries = written 1 contents } };
}

-- what the client asks
abbrev pub asks_open : Request
asks_open = Open (codes "d") 0 (codes "volatile")

abbrev pub asks_set : Request
asks_set = ExecSql 0 (lives.set_text 7) [] false

-- It is started over nothing, elects itself, and a client comes, opens a database and writes, and is answered.
abbrev pub write_events : List Event
write_events =
    Starts 1 only (lone only only)
    ∷ Goes 1 Timeout [] (leading (Other ∷ []) no_sessions []) [] [] []
    ∷ Goes 1 (Connect 5) [] (leading (Other ∷ []) (client []) []) [] [] []
    ∷ Goes 1 (Asks 5 (asks_open ∷ [])) (Propose (written 0 (opening ∷ [])) ∷ []) (leading (Other ∷ opening ∷ []) (client (codes "d")) opened) [] ((5, db) ∷ []) []
    ∷ Goes 1 (Asks 5 (asks_set ∷ [])) (Propose (written 0 (writing ∷ [])) ∷ []) (leading (Other ∷ opening ∷ writing ∷ []) (client (codes "d")) wrote) [] ((5, result 1) ∷ []) []
    ∷ []

abbrev pub RunWrites : Type 0
RunWrites = AllHold cells Cells (fixed only) first_run write_events
