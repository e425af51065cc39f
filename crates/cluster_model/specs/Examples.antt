-- A small cluster that is computed: what the laws speak of happens.
use Rattle.std.specs.Prelude.{◌≡◌, ℕ, true, List, [], ◌∷◌, ◌++◌, map, codes}
use Rattle.dq_base.specs.Changes.{changed}
use Rattle.log_commands.specs.declared.command.Command.TheVariants.{OpenDb, Frames}
use Rattle.database_state.specs.Files.{empty_image}
use Rattle.sql_engine.specs.declared.kind.EngineKind.TheVariants.{Cells}
use Rattle.sql_engine.specs.Cells.{cells}
use Rattle.session_spec.specs.Entries.{Content, Does, Other, Entry, written}
use Rattle.session_spec.specs.Sessions.{Reply, Rows, result, db}
use Rattle.session_safety.specs.Nodes.{Said}
use Rattle.session_safety.specs.Life.{Connect, Apply, Lose, Lead, Serve, Append, Follow}
use Rattle.session_safety.specs.Examples as lives
use Rattle.raft_spec.specs.Node.{Leader, Server, Timeout, Propose}
use Rattle.raft_safety.specs.Members.{fixed}
use Rattle.raft_safety.specs.World as world
use Rattle.raft_safety.specs.Laws.{node_at}
use Rattle.cluster_model.specs.Clusters.{Cluster, Act, Moves, Breaks, Crashes, Starts, first_cluster, cluster, ActsFit}
use Rattle.cluster_model.specs.Laws.{SafeCluster}

abbrev pub voter : ℕ → Server
voter id = record { id = id; address = []; role = 0 }

abbrev pub three : List Server
three = voter 1 ∷ voter 2 ∷ voter 3 ∷ []

-- what is proposed: a database, and a digit in its first cell
abbrev pub opening : Content
opening = Does (OpenDb (codes "d"))

unfoldable pub writing : Content
writing = Does (Frames (codes "d") 4294967299 3 true (changed empty_image (lives.one 7)))

abbrev pub line : ℕ → Content → Entry
line term content = record { term = term; content = content }

-- 1 is elected by 2
unfoldable pub elects : List Act
elects =
    Moves 1 (world.Does Timeout ∷ []) (0 ∷ 1 ∷ []) (Lose 1 ∷ [])
    ∷ Moves 2 (world.Takes 0 ∷ []) (0 ∷ []) (Lose 1 ∷ [])
    ∷ Moves 1 (world.Takes 2 ∷ []) (0 ∷ 1 ∷ []) (Lead 1 ∷ Append (Other ∷ []) ∷ [])
    ∷ Moves 2 (world.Takes 3 ∷ []) (0 ∷ []) (Follow (line 1 Other ∷ []) ∷ [])
    ∷ []

-- it serves, and a client opens a database
unfoldable pub opens : List Act
opens =
    Moves 1 (world.Takes 5 ∷ []) (0 ∷ 1 ∷ []) (Apply ∷ Serve ∷ Connect 5 ∷ [])
    ∷ Moves 1 (world.Does (Propose (written 0 (opening ∷ []))) ∷ []) (0 ∷ 1 ∷ []) (lives.opens 5 ∷ [])
    ∷ Moves 2 (world.Takes 8 ∷ []) (0 ∷ []) (Follow (line 1 Other ∷ line 1 opening ∷ []) ∷ Apply ∷ [])
    ∷ Moves 1 (world.Takes 10 ∷ []) (0 ∷ 1 ∷ []) (Apply ∷ [])
    ∷ []

-- It writes. 3 is stopped once it has kept the write and applied one entry, and starts again; 2 takes the write, which is
-- answered.
unfoldable pub writes : List Act
writes =
    Moves 1 (world.Does (Propose (written 0 (writing ∷ []))) ∷ []) (0 ∷ 1 ∷ []) (lives.sets 5 empty_image 7 ∷ [])
    ∷ Breaks 3 (world.Takes 14 ∷ []) 3 1 0 (Lose 1 ∷ Follow (line 1 Other ∷ line 1 opening ∷ line 1 writing ∷ []) ∷ Apply ∷ [])
    ∷ Starts 3 three
    ∷ Moves 2 (world.Takes 13 ∷ []) (0 ∷ []) (Follow (line 1 opening ∷ line 1 writing ∷ []) ∷ Apply ∷ [])
    ∷ Moves 1 (world.Takes 15 ∷ []) [] (Apply ∷ [])
    ∷ []

-- 3 crashes; 2 is elected by 1, which loses its leadership by that, serves, and another client reads
unfoldable pub moves_on : List Act
moves_on =
    Crashes 3
    ∷ Moves 2 (world.Does Timeout ∷ []) (0 ∷ 1 ∷ []) (Lose 2 ∷ [])
    ∷ Moves 1 (world.Takes 16 ∷ []) (0 ∷ []) (Lose 2 ∷ [])
    ∷ Moves 2 (world.Takes 18 ∷ []) (0 ∷ []) (Lead 2 ∷ Append (Other ∷ []) ∷ [])
    ∷ Moves 1 (world.Takes 19 ∷ []) (0 ∷ []) (Follow (line 2 Other ∷ []) ∷ [])
    ∷ Moves 2 (world.Takes 20 ∷ []) [] (Apply ∷ Apply ∷ Serve ∷ Connect 6 ∷ lives.opens 6 ∷ lives.gets 6 (lives.one 7) ∷ [])
    ∷ []

unfoldable pub turns : List Act
turns = elects ++ (opens ++ (writes ++ moves_on))

-- the cluster at the end
unfoldable pub after : Cluster
after = cluster (fixed three) turns

abbrev pub told : Said → ℕ × Reply
told x = (x.conn, x.reply)

-- What was said: two databases, a write, and the digit at the node that leads later.
abbrev pub RunSays : Type 0
RunSays = map told after.said ≡ (5, db) ∷ (5, result 1) ∷ (6, db) ∷ (6, Rows (lives.got_on (lives.one 7))) ∷ []

-- Node 2 leads at the end.
abbrev pub SecondLeads : Type 0
SecondLeads = (node_at (fixed three) after.raft 2).role ≡ Leader

-- Each act is what a node's step does, under the engine of cells; so the run is safe.
abbrev pub RunFits : Type 0
RunFits = ActsFit cells Cells (fixed three) first_cluster turns

abbrev pub RunIsSafe : Type 0
RunIsSafe = SafeCluster cells (fixed three) after
