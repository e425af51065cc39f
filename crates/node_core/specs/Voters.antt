-- What a node learns of its voters in a part of a step, and that it has peer connections where it had.
use Rattle.std.specs.Prelude.{◌≡◌, ℕ, suc, ◌-◌, ◌≤◌, List, ◌++◌, length, take, drop, Option, Some, None}
use Rattle.raft_spec.specs.Log.{Entry}
use Rattle.raft_spec.specs.Node as raft
use Rattle.raft_spec.specs.Node.{Server}
use Rattle.raft_safety.specs.Members.{Setup}
use Rattle.raft_membership.specs.Members.{Configurations, read_setup, IsOf}
use Rattle.node_spec.specs.Voting.{MayTell, Tells, VotersRest}
use Rattle.node_core.specs.declared.running.Running.{Running}
use Rattle.node_core.specs.Values.{seen}

-- A part of a step that took in these inputs, in an act with these bytes of a snapshot: the node was given its voters at each of them, and
-- was told them so after the last.
pub record Beside (setup : Setup) (old new : Running) (bytes : List ℕ) (inputs : List raft.Input) : Type 0 where
  pub voters : Tells setup old.replica.id bytes (seen old) (seen new) inputs
  pub links : new.has_links ≡ old.has_links

-- this holds whatever the servers are with which the cluster was opened, and whatever bytes came with the act
abbrev pub BesideAll : Running → Running → List raft.Input → Type 0
BesideAll old new inputs = (opening : List Server) (bytes : List ℕ) → Beside (read_setup opening) old new bytes inputs

-- the node is given its voters at each of these inputs, by what is before them alone
abbrev pub MayBe : Setup → Running → List ℕ → List raft.Input → Type 0
MayBe setup old bytes inputs = MayTell setup old.replica.id bytes (seen old) inputs

-- A part without a step of Raft: the configurations go along with what is applied.
pub record RestsBeside (old new : Running) : Type 0 where
  pub voters : VotersRest (seen old) (seen new)
  pub links : new.has_links ≡ old.has_links

-- the configurations of a log that is applied up to an index now
abbrev pub SettlesAt : Configurations → Configurations → ℕ → Type 0
SettlesAt old new applied = (setup : Setup) (log : List Entry) → IsOf setup log old → applied ≤ length log → IsOf setup log new

-- what follows of the configurations from a log that a node holds, which is another one from this index on
abbrev pub FollowsBy : Configurations → Configurations → List Entry → Option ℕ → Type 0
FollowsBy old new held None = new ≡ old
FollowsBy old new held (Some first) =
    (opening : List Server) (log : List Entry) → IsOf (read_setup opening) log old → first ≤ suc (length log) →
    IsOf (read_setup opening) (take (first - 1) log ++ drop (first - 1) held) new

-- these ids are those without the one at a place
pub record LacksAt (place : ℕ) (fewer more : List ℕ) : Type 0 where
  pub front : take place fewer ≡ take place more
  pub back : drop place fewer ≡ drop (suc place) more
