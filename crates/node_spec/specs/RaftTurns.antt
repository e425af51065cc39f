-- What Raft's turns are as stretches of an event: facts of the moment before and the one after, in the node's own words.
use Rattle.std.specs.Prelude.{◌≡◌, ◌≢◌, ℕ, suc, ◌-◌, ◌<◌, ◌≤◌, true, false, List, [], ◌∷◌, length, map, take, drop, Option}
use Rattle.sql_engine.specs.declared.kind.EngineKind.{EngineKind}
use Rattle.sql_engine.specs.Meanings.{Meaning}
use Rattle.database_state.specs.Files.{Content}
use Rattle.database_state.specs.Machines.{IsMachine}
use Rattle.session_spec.specs.Events.{on_applied, lost, on_lost, told_lost, on_hangup, connected}
use Rattle.session_spec.specs.Machine.{machine_of, files}
use Rattle.session_spec.specs.Requests.{with_session}
use Rattle.session_spec.specs.Seen.{log_seen}
use Rattle.session_spec.specs.Sessions.{Reply, Session, Gateway, no_sessions}
use Rattle.session_safety.specs.Nodes.{Node as Life}
use Rattle.raft_spec.specs.Log.{Entry}
use Rattle.raft_spec.specs.Node.{Node, Server, Message, is_leader, Timeout, Beat, Yield, Propose, Transfer, Snapped, UseServers, Input, Local, Receive}
use Rattle.raft_spec.specs.NodeValues.{IsCoherent, node_of}
use Rattle.raft_spec.specs.Compaction.{compacted_step}
use Rattle.raft_safety.specs.Members.{Setup, configuration_from, configuration}
use Rattle.applied_state.specs.Applied.{ShowsFiles}
use Rattle.applied_state.specs.Snapshot.{SpellsSnapshot, commits_of}
use Rattle.store_laws.specs.Meta.{with_vote}
use Rattle.store_laws.specs.Snapshots.{Longer, Left}
use Rattle.store_laws.specs.Store.{Snap, Kept}
use Rattle.node_spec.specs.Nodes as rules
use Rattle.node_spec.specs.Nodes.{SnapshotOf, Stands}
use Rattle.node_spec.specs.Steps.{Letter, Counts}
use Rattle.node_spec.specs.Accounts.{Moment, resting, no_piece, Goes, LeftBy}
use Rattle.node_spec.specs.Turns.{KeepsAll, KeepsClients, Proposes}

-- ---- a step of Raft

-- the node of Raft after its step of an input
abbrev pub raft_after : ℕ → Moment → Input → Node
raft_after me a i = (compacted_step me (node_of a.node.raft) i).node

-- A step of Raft was made, and said this; what it leaves is kept.
pub record RaftSteps (me : ℕ) (a b : Moment) (i : Input) (letters : List Letter) : Type 0 where
  pub made : node_of b.node.raft ≡ raft_after me a i
  pub says : map (λ (l : Letter). l.message) letters ≡ (compacted_step me (node_of a.node.raft) i).out
  pub coherent : IsCoherent b.node.raft
  pub kept : KeepsAll b.node.kept b.node.raft

-- the snapshot stays, and so do its bytes
pub record KeepsSnapshot (a b : Moment) : Type 0 where
  pub snapshot : b.node.raft.snapshot ≡ a.node.raft.snapshot
  pub bytes : b.node.kept.snap ≡ a.node.kept.snap

-- what is kept of a node, with the bytes of its snapshot, is kept of what the code holds
abbrev pub kept_of : Node → List ℕ → Kept
kept_of v bytes = record {
  term = v.term;
  vote = v.vote;
  snap = record { index = v.snapshot.index; term = v.snapshot.term; bytes = bytes };
  log = record { first = suc v.base; entries = drop v.base v.log };
}

abbrev pub AllIsKept : Type 0
AllIsKept = (a : Moment) (bytes : List ℕ) → a.node.kept ≡ kept_of (node_of a.node.raft) bytes → KeepsAll a.node.kept a.node.raft

-- ---- the first proposal that is due

-- a leader's step of it is what Raft takes
abbrev pub ProposalsTaken : Type 0
ProposalsTaken =
    (me : ℕ) (a b : Moment) (es : List Entry) (letters : List Letter) → RaftSteps me a b (Local (Propose es)) letters → IsCoherent a.node.raft →
    is_leader a.node.raft.role ≡ true →
    a.due ≡ es ∷ b.due → KeepsSnapshot a b → KeepsClients a b → Proposes me a b es letters

-- ---- a step that leaves the log

-- it is time for a heartbeat, a leadership is handed over, or Raft is given servers
abbrev pub LeavesLog : Input → Type 0
LeavesLog (Local Beat) = Unit {0}
LeavesLog (Local (Transfer to)) = Unit {0}
LeavesLog (Local (UseServers servers)) = Unit {0}
LeavesLog (Local Timeout) = ⊥
LeavesLog (Local Yield) = ⊥
LeavesLog (Local (Propose es)) = ⊥
LeavesLog (Local (Snapped index)) = ⊥
LeavesLog (Receive m) = ⊥

-- Log, term and leadership stay; proposals may be due.
pub record Leaves (me : ℕ) (a b : Moment) (i : Input) (letters : List Letter) : Type 0 where
  pub leaves : LeavesLog i
  pub step : RaftSteps me a b i letters
  pub snapshot : KeepsSnapshot a b
  pub due : b.due ≡ a.due
  pub rest : KeepsClients a b

abbrev pub LeavingGoes : Meaning → EngineKind → Type 0
LeavingGoes m kind =
    (setup : Setup) (me : ℕ) (bytes : List ℕ) (joins : Option ℕ) (a b : Moment) (i : Input) (letters : List Letter) →
    Leaves me a b i letters → Goes m kind setup me bytes joins a b (record no_piece { inputs = i ∷ []; letters = letters })

-- ---- a message, a timeout or a heartbeat, if no snapshot comes

-- sessions in which nothing is pending, no transaction is open and no query is due: a lost leadership ends nothing there
pub record HasEnded (g : Gateway) : Type 0 where
  pub ended : on_lost g ≡ g
  pub told : told_lost g ≡ []

-- This holds if a node starts and if a leadership was lost; and connections that come and go, entries that are applied, and what is
-- done for one session that has nothing open leave it so.
pub record EndsOn : Type 0 where
  pub started : HasEnded no_sessions
  pub lost_all : (g : Gateway) → HasEnded (on_lost g)
  pub tells : (g : Gateway) → on_lost g ≡ g → HasEnded g
  pub applied : (index : ℕ) (g : Gateway) → HasEnded g → HasEnded (on_applied index g)
  pub joined : (g : Gateway) (conn : ℕ) → HasEnded g → HasEnded (connected g conn)
  pub gone : (g : Gateway) (conn : ℕ) → HasEnded g → HasEnded (on_hangup g conn)
  pub session : (g : Gateway) (conn : ℕ) (s : Session) → HasEnded g → lost s ≡ s → s.there ≡ (g.session conn).there → HasEnded (with_session g conn s)

-- What a step leaves of sessions and service, and who is informed: its leadership stays, and so do they; its leadership of that term is
-- lost, and what was open or pending has ended; or the node had none, and nothing was open or pending.
pub data LeadershipFollows (a b : Moment) (replies : List (ℕ × Reply)) : Type 0 where
  in_office : is_leader a.node.raft.role ≡ true → is_leader b.node.raft.role ≡ true → b.node.raft.term ≡ a.node.raft.term →
      b.node.sessions ≡ a.node.sessions → b.node.serving ≡ a.node.serving → replies ≡ [] → LeadershipFollows a b replies
  loses : is_leader a.node.raft.role ≡ true → (is_leader b.node.raft.role ≡ true → b.node.raft.term ≢ a.node.raft.term) →
      b.node.sessions ≡ on_lost a.node.sessions → b.node.serving ≡ false → replies ≡ told_lost a.node.sessions → LeadershipFollows a b replies
  has_none : is_leader a.node.raft.role ≡ false → HasEnded a.node.sessions → b.node.sessions ≡ a.node.sessions → a.node.serving ≡ false →
      b.node.serving ≡ false → replies ≡ [] → LeadershipFollows a b replies

abbrev pub IsNoProposal : Input → Type 0
IsNoProposal (Local Timeout) = Unit {0}
IsNoProposal (Local Beat) = Unit {0}
IsNoProposal (Local Yield) = Unit {0}
IsNoProposal (Local (Propose es)) = ⊥
IsNoProposal (Local (Transfer to)) = Unit {0}
IsNoProposal (Local (Snapped index)) = Unit {0}
IsNoProposal (Local (UseServers servers)) = Unit {0}
IsNoProposal (Receive m) = Unit {0}

-- Nothing is due. Term and leadership may change, and others may change the log past what is applied.
pub record Follows (me : ℕ) (a b : Moment) (i : Input) (letters : List Letter) (replies : List (ℕ × Reply)) : Type 0 where
  pub other : IsNoProposal i
  pub idle : a.due ≡ []
  pub due : b.due ≡ []
  pub step : RaftSteps me a b i letters
  pub snapshot : KeepsSnapshot a b
  pub office : LeadershipFollows a b replies
  pub waiting : (conn : ℕ) → b.node.waiting conn ≡ a.node.waiting conn
  pub machine : IsMachine b.node.machine
  pub files : machine_of b.node.machine ≡ machine_of a.node.machine
  pub applied : b.applied ≡ a.applied

abbrev pub FollowingGoes : Meaning → EngineKind → Type 0
FollowingGoes m kind =
    (setup : Setup) (me : ℕ) (bytes : List ℕ) (joins : Option ℕ) (a b : Moment) (i : Input) (letters : List Letter) (replies : List (ℕ × Reply)) →
    Follows me a b i letters replies → Goes m kind setup me bytes joins a b (record no_piece { inputs = i ∷ []; letters = letters; replies = replies })

-- ---- a snapshot comes

-- The message puts a snapshot past the commit index in the place of entries: the databases are those of each front of a log of which
-- its bytes are the snapshot. What was open or pending has ended.
pub record Installs (setup : Setup) (me : ℕ) (a b : Moment) (bytes : List ℕ) (message : Message) (letters : List Letter)
    (replies : List (ℕ × Reply)) : Type 0 where
  pub idle : a.due ≡ []
  pub due : b.due ≡ []
  pub step : RaftSteps me a b (Receive message) letters
  pub comes : a.node.raft.commit < b.node.raft.snapshot.index
  pub kept : b.node.kept.snap.bytes ≡ bytes
  pub applied : b.applied ≡ b.node.raft.snapshot.index
  pub shows : (front : List Entry) → length front ≡ b.node.raft.snapshot.index → SnapshotOf setup front bytes →
      ShowsFiles (commits_of front) (files (log_seen front)) b.node.machine
  pub machine : IsMachine b.node.machine
  pub sessions : b.node.sessions ≡ on_lost a.node.sessions
  pub tells : replies ≡ told_lost a.node.sessions
  pub ended : is_leader a.node.raft.role ≡ false → HasEnded a.node.sessions
  pub unserved : is_leader a.node.raft.role ≡ false → a.node.serving ≡ false
  pub serving : is_leader b.node.raft.role ≡ false → b.node.serving ≡ false
  pub waiting : (conn : ℕ) → b.node.waiting conn ≡ a.node.waiting conn

abbrev pub InstallGoes : Meaning → EngineKind → Type 0
InstallGoes m kind =
    (setup : Setup) (me : ℕ) (bytes : List ℕ) (joins : Option ℕ) (a b : Moment) (message : Message) (letters : List Letter) (replies : List (ℕ × Reply)) →
    Installs setup me a b bytes message letters replies →
    Goes m kind setup me bytes joins a b (record no_piece { inputs = Receive message ∷ []; letters = letters; replies = replies })

-- ---- an own snapshot

-- the configuration that a kept snapshot has; without one, the opening one
pub record SnapServers (setup : Setup) (snap : Snap) (servers : List Server) : Type 0 where
  pub none : snap.index ≡ 0 → servers ≡ setup.opening
  pub some : 0 < snap.index → (contents : List Content) × SpellsSnapshot (record { servers = servers; contents = contents }) snap.bytes

-- the entries after the kept snapshot that are applied
abbrev pub applied_behind : Moment → List Entry
applied_behind a = take (a.applied - a.node.raft.snapshot.index) (drop (a.node.raft.snapshot.index - a.node.raft.base) a.node.raft.entries)

-- The applied configuration, by what the node holds: that of the kept snapshot, and then the changes among the entries after it, up to
-- the applied index.
pub record HasServers (setup : Setup) (a : Moment) (servers : List Server) : Type 0 where
  pub low : a.node.raft.snapshot.index ≤ a.applied
  pub first : List Server
  pub snap : SnapServers setup a.node.kept.snap first
  pub is : servers ≡ configuration_from setup first (applied_behind a)

-- This holds for a node at rest that counts by its configurations, as in each run, if these go up to the applied index.
abbrev pub RestingServers : Type 0
RestingServers =
    (setup : Setup) (n : rules.Node) (s : Node) (w : Life) → Stands setup n s w → Counts setup n s → n.members.at ≡ n.raft.commit →
    HasServers setup (resting n) n.members.servers

-- These are the bytes of a snapshot of what is applied, past the last one: they are that of each front of a log that gives the servers
-- and the databases.
pub record SpellsApplied (setup : Setup) (a : Moment) (index : ℕ) (bytes : List ℕ) : Type 0 where
  pub at : index ≡ a.applied
  pub past : a.node.raft.snapshot.index < index
  pub servers : List Server
  pub has : HasServers setup a servers
  pub front : (lacks : List ℕ → ℕ) (front : List Entry) → index ≡ length front → servers ≡ configuration setup front →
      ShowsFiles lacks (files (log_seen front)) a.node.machine → SnapshotOf setup front bytes

pub record TakesSnapshot (setup : Setup) (me : ℕ) (a b : Moment) (index : ℕ) (letters : List Letter) : Type 0 where
  pub step : RaftSteps me a b (Local (Snapped index)) letters
  pub spells : SpellsApplied setup a index b.node.kept.snap.bytes
  pub due : b.due ≡ a.due
  pub rest : KeepsClients a b

abbrev pub SnapshotGoes : Meaning → EngineKind → Type 0
SnapshotGoes m kind =
    (setup : Setup) (me : ℕ) (bytes : List ℕ) (joins : Option ℕ) (a b : Moment) (index : ℕ) (letters : List Letter) →
    TakesSnapshot setup me a b index letters → Goes m kind setup me bytes joins a b (record no_piece { inputs = Local (Snapped index) ∷ []; letters = letters })

-- ---- a stop within a step

-- The state after the step is kept, with these bytes of its snapshot, and maybe with a longer old part of the log.
pub record IsLater (me : ℕ) (a : Moment) (i : Input) (bytes : List ℕ) (kept : Kept) : Type 0 where
  pub term : kept.term ≡ (raft_after me a i).term
  pub vote : kept.vote ≡ (raft_after me a i).vote
  pub snap : kept.snap ≡ (kept_of (raft_after me a i) bytes).snap
  pub longer : Longer kept.log (kept_of (raft_after me a i) bytes).log
  pub left : Left kept.snap a.node.kept.log (kept_of (raft_after me a i) bytes).log kept.log

-- Whose bytes they are, in an event with these bytes of a snapshot: those that were kept; those that came; or those of an own snapshot.
pub data BytesAfter (setup : Setup) (me : ℕ) (came : List ℕ) (a : Moment) (i : Input) (bytes : List ℕ) : Type 0 where
  kept_bytes : (raft_after me a i).snapshot ≡ a.node.raft.snapshot → bytes ≡ a.node.kept.snap.bytes → BytesAfter setup me came a i bytes
  brought_bytes : (m : Message) → i ≡ Receive m → a.node.raft.commit < (raft_after me a i).snapshot.index → bytes ≡ came → BytesAfter setup me came a i bytes
  own_bytes : (index : ℕ) → i ≡ Local (Snapped index) → SpellsApplied setup a index bytes → BytesAfter setup me came a i bytes

-- What is kept where a step was stopped: what was kept before it; that with the new term and vote; or the state after it.
pub data StopsAt (setup : Setup) (me : ℕ) (came : List ℕ) (a : Moment) (i : Input) (kept : Kept) : Type 0 where
  at_first : kept ≡ a.node.kept → StopsAt setup me came a i kept
  at_vote : kept ≡ with_vote (raft_after me a i).term (raft_after me a i).vote a.node.kept → StopsAt setup me came a i kept
  at_end : (bytes : List ℕ) → BytesAfter setup me came a i bytes → IsLater me a i bytes kept → StopsAt setup me came a i kept

-- a proposal is the first one that is due
abbrev pub IsFirst : Moment → Input → Type 0
IsFirst a (Local (Propose es)) = (rest : List (List Entry)) × (a.due ≡ es ∷ rest)
IsFirst a (Local Timeout) = Unit {0}
IsFirst a (Local Beat) = Unit {0}
IsFirst a (Local Yield) = Unit {0}
IsFirst a (Local (Transfer to)) = Unit {0}
IsFirst a (Local (Snapped index)) = Unit {0}
IsFirst a (Local (UseServers servers)) = Unit {0}
IsFirst a (Receive m) = Unit {0}

-- that is a stop within the step
abbrev pub StopLeaves : Type 0
StopLeaves =
    (setup : Setup) (me : ℕ) (bytes : List ℕ) (joins : Option ℕ) (a : Moment) (i : Input) (kept : Kept) → IsFirst a i → StopsAt setup me bytes a i kept →
    LeftBy setup me bytes joins a i kept
