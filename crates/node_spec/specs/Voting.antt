-- What a node learns of its voters, if they change, turn by turn: facts of the node before a turn and after it, in its own words,
-- that each turn can show, and what they are enough for.
use Rattle.std.specs.Prelude.{◌≡◌, ◌≢◌, ℕ, ◌<◌, ◌≤◌, true, false, List, [], ◌∷◌, ◌++◌, length, drop, Some, None}
use Rattle.database_state.specs.Files.{Content}
use Rattle.raft_spec.specs.Log.{Entry, term_at}
use Rattle.raft_spec.specs.Node as raft
use Rattle.raft_spec.specs.Node.{Follower, Server, voters, is_leader, Timeout, Beat, Yield, Propose, Transfer, Snapped, UseServers, Local, Receive}
use Rattle.raft_spec.specs.NodeValues.{NodeValue, IsCoherent, node_of}
use Rattle.raft_spec.specs.Account.{Stored, steps, loaded}
use Rattle.raft_spec.specs.Compaction.{compacted_step}
use Rattle.raft_messages.specs.Servers.{IsConfiguration}
use Rattle.raft_safety.specs.Laws.{SameUpTo}
use Rattle.raft_safety.specs.Members.{Setup, any_change, configuration, member_step}
use Rattle.raft_safety.specs.Cuts.{Twin, Told}
use Rattle.raft_membership.specs.Members.{Configurations, last_index, last_servers, configuration_in, read_setup, IsOf}
use Rattle.node_spec.specs.Changes.{are_near}
use Rattle.applied_state.specs.Snapshot.{SpellsSnapshot}
use Rattle.store_laws.specs.Store.{Kept}
use Rattle.node_spec.specs.Nodes.{Node, KeptIs}
use Rattle.node_spec.specs.Steps.{Taken, TakesIn, Counts, TellsVoters, VotersWereTold}

-- ---- stretches of an event

-- these inputs are taken in, in an event with these bytes of a snapshot
abbrev pub taking : List ℕ → List raft.Input → Taken
taking bytes inputs = record { inputs = inputs; bytes = bytes; joins = None; read = None; asks = λ conn. [] }

-- A node that was told its voters is told them at each of these steps.
abbrev pub MayTell : Setup → ℕ → List ℕ → Node → List raft.Input → Type 0
MayTell setup me bytes a inputs =
    (s : raft.Node) (is : List raft.Input) → Counts setup a s → TakesIn setup me a s is (taking bytes inputs) → Told setup me s is

-- Raft's part makes the steps, the node is given its voters at each of them, and it was given them after the last.
pub record Tells (setup : Setup) (me : ℕ) (bytes : List ℕ) (a b : Node) (inputs : List raft.Input) : Type 0 where
  pub made : node_of b.raft ≡ steps (compacted_step me) (node_of a.raft) inputs
  pub may : MayTell setup me bytes a inputs
  pub counts : (s : raft.Node) (is : List raft.Input) → Counts setup a s → TakesIn setup me a s is (taking bytes inputs) → Told setup me s is →
      Counts setup b (steps (member_step setup me) s is)

-- one stretch after the other
abbrev pub TellsOn : Type 0
TellsOn =
    (setup : Setup) (me : ℕ) (bytes : List ℕ) (a b c : Node) (xs ys : List raft.Input) →
    Tells setup me bytes a b xs → Tells setup me bytes b c ys → Tells setup me bytes a c (xs ++ ys)

-- A whole event has told what is asked of it.
abbrev pub TellsToEnd : Type 0
TellsToEnd = (setup : Setup) (me : ℕ) (old new : Node) (x : Taken) → Tells setup me x.bytes old new x.inputs → TellsVoters setup me old x × VotersWereTold setup me old new x

-- So has one that is stopped in further steps.
abbrev pub TellsToStop : Type 0
TellsToStop =
    (setup : Setup) (me : ℕ) (old b : Node) (x : Taken) (xs ys : List raft.Input) →
    Tells setup me x.bytes old b xs → MayTell setup me x.bytes b ys → x.inputs ≡ xs ++ ys → TellsVoters setup me old x

-- ---- turns

-- the input names no servers, and proposes no change
abbrev pub IsPlain : raft.Input → Type 0
IsPlain (Local Timeout) = Unit {0}
IsPlain (Local Beat) = Unit {0}
IsPlain (Local Yield) = Unit {0}
IsPlain (Local (Propose es)) = any_change (read_setup []) es ≡ false
IsPlain (Local (Transfer to)) = Unit {0}
IsPlain (Local (Snapped index)) = Unit {0}
IsPlain (Local (UseServers servers)) = ⊥
IsPlain (Receive m) = Unit {0}

-- The configurations follow the log in a step of Raft, whatever whole logs its two ends represent.
abbrev pub FollowLog : NodeValue → NodeValue → Configurations → Configurations → Type 0
FollowLog old new m n =
    (opening : List Server) (s t : raft.Node) → Twin s (node_of old) → Twin t (node_of new) → SameUpTo s.commit s.log t.log →
    IsOf (read_setup opening) s.log m → IsOf (read_setup opening) t.log n

-- A turn without a step of Raft; of the log more may be applied.
pub record VotersRest (a b : Node) : Type 0 where
  pub raft : b.raft ≡ a.raft
  pub applied : ℕ
  pub high : applied ≤ a.raft.commit
  pub settle : (setup : Setup) (log : List Entry) → IsOf setup log a.members → applied ≤ length log → IsOf setup log b.members

-- How the turn of a step ends: with the configurations that were; with a node that doesn't follow, whose own entries aren't changes;
-- or Raft is given the servers of the current one.
pub data TellsLast (me : ℕ) (a b : Node) (mid : NodeValue) (more : List raft.Input) : Type 0 where
  with_same : b.raft ≡ mid → b.members ≡ a.members → more ≡ [] → TellsLast me a b mid more
  with_own : b.raft ≡ mid → mid.role ≢ Follower → more ≡ [] → TellsLast me a b mid more
  with_told : (servers : List Server) → servers ≡ last_servers b.members →
      node_of b.raft ≡ (compacted_step me (node_of mid) (Local (UseServers servers))).node → more ≡ Local (UseServers servers) ∷ [] → TellsLast me a b mid more

-- A step of Raft that puts no snapshot in place and proposes no change; the configurations follow the log.
pub record VotersFollow (me : ℕ) (a b : Node) (i : raft.Input) (more : List raft.Input) : Type 0 where
  pub plain : IsPlain i
  pub coherent : IsCoherent a.raft
  pub mid : NodeValue
  pub made : node_of mid ≡ (compacted_step me (node_of a.raft) i).node
  pub follow : FollowLog a.raft mid a.members b.members
  pub last : TellsLast me a b mid more

-- The entry at the commit index is of the node's own term: this holds for a leader that has committed the barrier of its term.
abbrev pub OwnsCommit : NodeValue → Type 0
OwnsCommit h = term_at (node_of h).log h.commit ≡ h.term

-- A leader may propose an entry that changes to these servers: it has applied the barrier of its term and every change of its log, and
-- their voters are those of the applied configuration, or one more or less.
pub record MayChange (a : Node) (e : Entry) (servers : List Server) : Type 0 where
  pub leads : is_leader a.raft.role ≡ true
  pub coherent : IsCoherent a.raft
  pub reads : configuration_in e ≡ Some servers
  pub at : a.members.at ≡ a.raft.commit
  pub none : last_index a.members ≡ a.members.at
  pub stands : IsConfiguration a.members.servers
  pub barrier : OwnsCommit a.raft
  pub near : are_near (voters a.members.servers) (voters servers) ≡ true

-- Raft is given the servers, and then proposes the entry, which is counted by them.
pub record VotersChange (me : ℕ) (a b : Node) (e : Entry) (servers : List Server) : Type 0 where
  pub may : MayChange a e servers
  pub mid : NodeValue
  pub told : node_of mid ≡ (compacted_step me (node_of a.raft) (Local (UseServers servers))).node
  pub made : node_of b.raft ≡ (compacted_step me (node_of mid) (Local (Propose (e ∷ [])))).node
  pub follow : FollowLog mid b.raft a.members b.members

-- The configurations of a whole log up to an index, with these servers there, and with the entries after it that are held.
abbrev pub FromSnapshot : List Server → ℕ → List Entry → Configurations → Type 0
FromSnapshot servers index held m =
    (opening : List Server) (front : List Entry) → length front ≡ index → configuration (read_setup opening) front ≡ servers →
    IsOf (read_setup opening) (front ++ drop index held) m

-- A message puts its snapshot in the place of entries; the configurations are those of the log after it, and Raft is given the current one.
pub record VotersInstall (me : ℕ) (bytes : List ℕ) (a b : Node) (m : raft.Message) (servers : List Server) : Type 0 where
  pub coherent : IsCoherent a.raft
  pub mid : NodeValue
  pub made : node_of mid ≡ (compacted_step me (node_of a.raft) (Receive m)).node
  pub mid_coherent : IsCoherent mid
  pub comes : a.raft.commit < mid.snapshot.index
  pub first : List Server
  pub contents : List Content
  pub spelled : SpellsSnapshot (record { servers = first; contents = contents }) bytes
  pub members : FromSnapshot first mid.snapshot.index (node_of mid).log b.members
  pub current : servers ≡ last_servers b.members
  pub told : node_of b.raft ≡ (compacted_step me (node_of mid) (Local (UseServers servers))).node

-- An own snapshot at an index: configurations stay.
pub record VotersCompact (me : ℕ) (a b : Node) (index : ℕ) : Type 0 where
  pub made : node_of b.raft ≡ (compacted_step me (node_of a.raft) (Local (Snapped index))).node
  pub members : b.members ≡ a.members

-- A start over what was kept: the configurations are those of the log after the snapshot, or after nothing, and Raft is told the
-- current one.
pub record VotersStart (opening : List Server) (kept : Kept) (new : Node) (servers : List Server) : Type 0 where
  pub first : List Server
  pub none : kept.snap.index ≡ 0 → first ≡ opening
  pub contents : List Content
  pub spelled : 0 < kept.snap.index → SpellsSnapshot (record { servers = first; contents = contents }) kept.snap.bytes
  pub members : FromSnapshot first kept.snap.index (node_of new.raft).log new.members
  pub current : servers ≡ last_servers new.members

-- ---- each turn is a stretch

abbrev pub RestTells : Type 0
RestTells = (setup : Setup) (me : ℕ) (bytes : List ℕ) (a b : Node) → VotersRest a b → Tells setup me bytes a b []

abbrev pub FollowTells : Type 0
FollowTells =
    (opening : List Server) (me : ℕ) (bytes : List ℕ) (a b : Node) (i : raft.Input) (more : List raft.Input) →
    VotersFollow me a b i more → Tells (read_setup opening) me bytes a b (i ∷ more)

abbrev pub ChangeTells : Type 0
ChangeTells =
    (opening : List Server) (me : ℕ) (bytes : List ℕ) (a b : Node) (e : Entry) (servers : List Server) →
    VotersChange me a b e servers → Tells (read_setup opening) me bytes a b (Local (UseServers servers) ∷ Local (Propose (e ∷ [])) ∷ [])

abbrev pub InstallTells : Type 0
InstallTells =
    (opening : List Server) (me : ℕ) (bytes : List ℕ) (a b : Node) (m : raft.Message) (servers : List Server) →
    VotersInstall me bytes a b m servers → Tells (read_setup opening) me bytes a b (Receive m ∷ Local (UseServers servers) ∷ [])

abbrev pub CompactTells : Type 0
CompactTells =
    (opening : List Server) (me : ℕ) (bytes : List ℕ) (a b : Node) (index : ℕ) → VotersCompact me a b index → Tells (read_setup opening) me bytes a b (Local (Snapped index) ∷ [])

-- ---- a turn that is stopped has been told too

-- in a step that proposes no change, or after it
abbrev pub PlainStops : Type 0
PlainStops =
    (opening : List Server) (me : ℕ) (bytes : List ℕ) (a : Node) (i : raft.Input) (servers : List Server) → IsPlain i →
    MayTell (read_setup opening) me bytes a (i ∷ []) × MayTell (read_setup opening) me bytes a (i ∷ Local (UseServers servers) ∷ [])

-- in the two steps of a change
abbrev pub ChangeStops : Type 0
ChangeStops =
    (opening : List Server) (me : ℕ) (bytes : List ℕ) (a : Node) (e : Entry) (servers : List Server) → MayChange a e servers →
    MayTell (read_setup opening) me bytes a (Local (UseServers servers) ∷ [])
    × MayTell (read_setup opening) me bytes a (Local (UseServers servers) ∷ Local (Propose (e ∷ [])) ∷ [])

-- ---- the term at a leader's commit index

-- A leader's step in its term that moves its commit index moves it to an entry of that term, and one that leaves it leaves that entry.
abbrev pub LeadersOwn : Type 0
LeadersOwn =
    (me : ℕ) (a b : NodeValue) (i : raft.Input) → node_of b ≡ (compacted_step me (node_of a) i).node → IsCoherent a → is_leader b.role ≡ true → b.term ≡ a.term →
    b.base < b.commit → (b.commit ≡ a.commit → OwnsCommit a) → OwnsCommit b

-- ---- a start

-- A node that has stored what was kept, of which the new one is what it holds, counts as the start says.
abbrev pub StartCounts : Type 0
StartCounts =
    (opening : List Server) (kept : Kept) (new : Node) (servers : List Server) (x : Stored) →
    VotersStart opening kept new servers → KeptIs (read_setup opening) kept x →
    Twin (loaded true servers x) (node_of new.raft) → IsCoherent new.raft → Counts (read_setup opening) new (loaded true servers x)
