-- A node that doesn't lead is given other servers.
use Rattle.std.specs.Prelude.{◌≡◌, ℕ, Bool, false, List, [], Option, None}
use Rattle.raft_spec.specs.Node.{Server, is_leader}
use Rattle.raft_spec.specs.NodeValues.{node_of}
use Rattle.raft_spec.specs.Membership.{with_servers}
use Rattle.raft_core.specs.declared.event.RaftEvent.TheVariants as events
use Rattle.raft_on_disk.specs.Replicas.{ReplicaValue, IsWhole, stepped, said, HasMoved}
use Rattle.raft_on_disk.specs.Stops.{votes_between}

-- It has these servers, with next and match of its peers, and is else as it was, term, vote, log, commit index and snapshot
-- included. It says nothing, and nothing is to be kept.
pub record OnlyServers (r : ReplicaValue) (servers : List Server) : Type 0 where
  pub node : stepped r (events.Servers servers) ≡ with_servers r.raft.id (node_of r.raft) servers
  pub says : said r (events.Servers servers) ≡ []
  pub votes : votes_between (node_of r.raft) (stepped r (events.Servers servers)) ≡ 0
  pub log : (batch : Option ℕ) (installed : Bool) → HasMoved (node_of r.raft) (stepped r (events.Servers servers)) batch installed → (batch ≡ None) × (installed ≡ false)

abbrev pub ServersAlone : Type 0
ServersAlone = (r : ReplicaValue) (servers : List Server) → IsWhole r → is_leader r.raft.role ≡ false → OnlyServers r servers
