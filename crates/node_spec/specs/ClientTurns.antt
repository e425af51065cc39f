-- What a node does for its clients beside their requests, as stretches of an event: facts of the moment before and the one after, in
-- the node's own words.
use Rattle.std.specs.Prelude.{◌≡◌, ◌≢◌, ℕ, suc, ◌-◌, ◌<◌, ◌≤◌, true, cond, List, [], ◌∷◌, ◌++◌, length, slice_get, Option, Some, None}
use Rattle.wire_msgs.specs.declared.request.Request.{Request}
use Rattle.sql_engine.specs.declared.kind.EngineKind.{EngineKind}
use Rattle.sql_engine.specs.Meanings.{Meaning}
use Rattle.sql_engine.specs.Replies.{Statement}
use Rattle.database_state.specs.Machines.{IsMachine}
use Rattle.session_spec.specs.Engines.{Answer, AllowsFor, used_for}
use Rattle.session_spec.specs.Events.{on_applied, told_applied, on_lost, on_hangup, connects, connected}
use Rattle.session_spec.specs.Machine.{machine_of}
use Rattle.session_spec.specs.Requests.{on_later, handed_later, without_later}
use Rattle.session_spec.specs.Seen.{entry_seen}
use Rattle.session_spec.specs.Sessions.{Reply, Gateway, Turned, later_query, lent_query}
use Rattle.session_safety.specs.Answering.{comes}
use Rattle.session_safety.specs.Nodes.{Standing}
use Rattle.raft_spec.specs.Log.{Entry}
use Rattle.raft_spec.specs.Node.{is_leader}
use Rattle.raft_spec.specs.NodeValues.{node_of}
use Rattle.raft_safety.specs.Members.{Setup}
use Rattle.applied_state.specs.Applied.{databases_after}
use Rattle.node_spec.specs.Accounts.{Moment, no_piece, Goes, Begins}
use Rattle.node_spec.specs.Turns.{KeepsRaft, view_at, gate_after, told_at_once, due_by, MayPropose}

-- what waits, and what is due at Raft, stays
pub record KeepsWaiting (a b : Moment) : Type 0 where
  pub waiting : (conn : ℕ) → b.node.waiting conn ≡ a.node.waiting conn
  pub due : b.due ≡ a.due

-- ---- nothing

-- Nothing has changed but marks and counts of the databases, and what isn't asked: so if a message that waits is none that reads as
-- a request, or an event is of a connection that isn't there.
pub record Stays (a b : Moment) : Type 0 where
  pub sessions : b.node.sessions ≡ a.node.sessions
  pub same : KeepsWaiting a b
  pub rest : KeepsRaft a b

abbrev pub StayingGoes : Meaning → EngineKind → Type 0
StayingGoes m kind = (setup : Setup) (me : ℕ) (bytes : List ℕ) (joins : Option ℕ) (a b : Moment) → Stays a b → Goes m kind setup me bytes joins a b no_piece

-- ---- connections

-- A connection comes: it gets a session where there is room for one and its number is free.
pub record Connects (a b : Moment) (conn : ℕ) : Type 0 where
  pub sessions : b.node.sessions ≡ cond (connects a.node.sessions conn) (connected a.node.sessions conn) a.node.sessions
  pub same : KeepsWaiting a b
  pub rest : KeepsRaft a b

-- that is a stretch of an event in which it comes
abbrev pub ConnectingGoes : Meaning → EngineKind → Type 0
ConnectingGoes m kind =
    (setup : Setup) (me : ℕ) (bytes : List ℕ) (a b : Moment) (conn : ℕ) → Connects a b conn → Goes m kind setup me bytes (Some conn) a b no_piece

-- A connection goes, be it hung up, closed, or handed over to a peer; nothing waits on it then.
pub record HangsUp (a b : Moment) (conn : ℕ) : Type 0 where
  pub sessions : b.node.sessions ≡ on_hangup a.node.sessions conn
  pub gone : b.node.waiting conn ≡ []
  pub others : (other : ℕ) → other ≢ conn → b.node.waiting other ≡ a.node.waiting other
  pub due : b.due ≡ a.due
  pub rest : KeepsRaft a b

abbrev pub HangingGoes : Meaning → EngineKind → Type 0
HangingGoes m kind =
    (setup : Setup) (me : ℕ) (bytes : List ℕ) (joins : Option ℕ) (a b : Moment) (conn : ℕ) → HangsUp a b conn → Goes m kind setup me bytes joins a b no_piece

-- Bytes come, with these requests after those that wait.
pub record Hears (a b : Moment) (asks : ℕ → List Request) : Type 0 where
  pub sessions : b.node.sessions ≡ a.node.sessions
  pub waiting : (conn : ℕ) → b.node.waiting conn ≡ a.node.waiting conn ++ asks conn
  pub due : b.due ≡ a.due
  pub rest : KeepsRaft a b

abbrev pub HearingGoes : Meaning → EngineKind → Type 0
HearingGoes m kind =
    (setup : Setup) (me : ℕ) (bytes : List ℕ) (joins : Option ℕ) (a b : Moment) (asks : ℕ → List Request) →
    Hears a b asks → Goes m kind setup me bytes joins a b (record no_piece { asks = asks })

-- ---- an entry is applied

-- The next entry is applied, be it a command, a configuration or a barrier: the databases have it, and the clients whose proposals end
-- with it are told.
pub record Applies (a b : Moment) (replies : List (ℕ × Reply)) : Type 0 where
  pub more : a.applied < a.node.raft.commit
  pub applied : b.applied ≡ suc a.applied
  pub held : a.node.raft.base ≤ a.applied
  pub entry : Entry
  pub is : slice_get a.node.raft.entries (a.applied - a.node.raft.base) ≡ Some entry
  pub stood : IsMachine a.node.machine
  pub machine : IsMachine b.node.machine
  pub files : machine_of b.node.machine ≡ machine_of (databases_after a.node.machine (entry_seen entry).content)
  pub sessions : b.node.sessions ≡ on_applied (suc a.applied) a.node.sessions
  pub says : replies ≡ told_applied (suc a.applied) a.node.sessions
  pub same : KeepsWaiting a b
  pub raft : b.node.raft ≡ a.node.raft
  pub kept : b.node.kept ≡ a.node.kept
  pub serving : b.node.serving ≡ a.node.serving

-- that is a stretch in which replies that waited are told
abbrev pub ApplyingGoes : Meaning → EngineKind → Type 0
ApplyingGoes m kind =
    (setup : Setup) (me : ℕ) (bytes : List ℕ) (joins : Option ℕ) (a b : Moment) (replies : List (ℕ × Reply)) →
    Applies a b replies → Goes m kind setup me bytes joins a b (record no_piece { replies = replies; late = true })

-- If a lost leadership would change nothing at the sessions, neither does an entry that is applied, and no client is informed.
abbrev pub EndedStay : Type 0
EndedStay = (index : ℕ) (g : Gateway) → on_lost g ≡ g → (on_applied index g ≡ g) × (told_applied index g ≡ [])

-- ---- queries that are answered later than they were asked

-- A query that waits for its answer is run by the node, if nothing is due at Raft: its barrier is applied, or its reader gave it
-- back. By answers that the engine may give, all of which it uses, it ends with what the rules say.
pub record Resumes (m : Meaning) (kind : EngineKind) (a b : Moment) (conn : ℕ) (replies : List (ℕ × Reply)) : Type 0 where
  pub standing : Standing
  pub statement : Statement
  pub answers : List Answer
  pub idle : a.due ≡ []
  pub later : later_query (a.node.sessions.session conn).later ≡ Some statement
  pub allowed : AllowsFor m kind (handed_later (view_at a standing) (machine_of a.node.machine) (without_later a.node.sessions conn) conn statement) answers
  pub exact : used_for (handed_later (view_at a standing) (machine_of a.node.machine) (without_later a.node.sessions conn) conn statement) answers ≡ length answers
  pub turned : Turned
  pub is : on_later (view_at a standing) (machine_of a.node.machine) (without_later a.node.sessions conn) conn statement answers ≡ turned
  pub comes : comes turned ≡ true
  pub proposes : MayPropose (view_at a standing) (is_leader a.node.raft.role) turned
  pub sessions : b.node.sessions ≡ gate_after (without_later a.node.sessions conn) conn turned
  pub due : b.due ≡ due_by a.node.raft.term turned
  pub says : replies ≡ told_at_once conn turned
  pub waiting : (other : ℕ) → b.node.waiting other ≡ a.node.waiting other
  pub rest : KeepsRaft a b

-- that is a stretch in which nothing is lent
abbrev pub ResumingGoes : Meaning → EngineKind → Type 0
ResumingGoes m kind =
    (setup : Setup) (me : ℕ) (bytes : List ℕ) (joins : Option ℕ) (a b : Moment) (conn : ℕ) (replies : List (ℕ × Reply)) →
    (x : Resumes m kind a b conn replies) → Goes m kind setup me bytes joins a b (record no_piece { replies = replies; answers = x.answers })

-- The reader of a connection's query tells a reply, and the connection waits for it no more.
pub record Reads (a b : Moment) (conn : ℕ) : Type 0 where
  pub statement : Statement
  pub lent : lent_query (a.node.sessions.session conn).later ≡ Some statement
  pub sessions : b.node.sessions ≡ without_later a.node.sessions conn
  pub same : KeepsWaiting a b
  pub rest : KeepsRaft a b

-- That is the first stretch of an event in which a reader answered this. It was the reader's engine that told the answers.
abbrev pub ReadingBegins : Meaning → EngineKind → Type 0
ReadingBegins m kind =
    (setup : Setup) (me : ℕ) (bytes : List ℕ) (joins : Option ℕ) (a b : Moment) (conn : ℕ) (reply : Reply) →
    Reads a b conn → Begins m kind setup me bytes joins (Some (conn, reply)) a b (record no_piece { replies = (conn, reply) ∷ [] })

-- ---- a leader serves

-- A leader that has applied all of its log, and has no pages pending, serves from then on.
pub record Serves (a b : Moment) : Type 0 where
  pub leads : is_leader a.node.raft.role ≡ true
  pub idle : a.due ≡ []
  pub all : a.applied ≡ length (node_of a.node.raft).log
  pub calm : (name : List ℕ) → ((machine_of a.node.machine).base name).pending ≡ None
  pub serving : b.node.serving ≡ true
  pub sessions : b.node.sessions ≡ a.node.sessions
  pub same : KeepsWaiting a b
  pub raft : b.node.raft ≡ a.node.raft
  pub kept : b.node.kept ≡ a.node.kept
  pub applied : b.applied ≡ a.applied
  pub machine : IsMachine b.node.machine
  pub files : machine_of b.node.machine ≡ machine_of a.node.machine

abbrev pub ServingGoes : Meaning → EngineKind → Type 0
ServingGoes m kind = (setup : Setup) (me : ℕ) (bytes : List ℕ) (joins : Option ℕ) (a b : Moment) → Serves a b → Goes m kind setup me bytes joins a b no_piece
