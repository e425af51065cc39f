-- What the turns of a node are as stretches of an event: facts of the moment before and the one after, in the node's own words.
use Rattle.std.specs.Prelude.{◌≡◌, ◌⊎◌, ℕ, suc, ◌<◌, ◌≤◌, Bool, true, cond, ◌==◌, List, [], ◌∷◌, ◌++◌, map, length, Option}
use Rattle.std.specs.List.{AllByRecursion}
use Rattle.dq_base.specs.declared.pages.NumberedPage.{NumberedPage}
use Rattle.log_commands.specs.Splitting.{split}
use Rattle.wire_msgs.specs.declared.request.Request.{Request}
use Rattle.sql_engine.specs.declared.kind.EngineKind.{EngineKind}
use Rattle.sql_engine.specs.Meanings.{Meaning}
use Rattle.sql_engine.specs.Replies.{Statement}
use Rattle.database_state.specs.Machines.{IsMachine}
use Rattle.session_spec.specs.Engines.{Answer, AllowsFor, used_for}
use Rattle.session_spec.specs.Entries.{Content, Does, tx_of, written}
use Rattle.session_spec.specs.Machine.{Machine, machine_of}
use Rattle.session_spec.specs.Requests.{on_request, on_later, handed, with_session, affected_by}
use Rattle.session_spec.specs.Seen.{HasSpelling}
use Rattle.session_spec.specs.Sessions.{Reply, Refusal, empty, Gateway, View, may_ask, Turned, Refused, Lacks, Answers, Proposes as Suggests, Lends, Affects}
use Rattle.session_safety.specs.Answering.{comes}
use Rattle.session_safety.specs.Lending.{lends_by}
use Rattle.session_safety.specs.Life.{ArePlain}
use Rattle.session_safety.specs.Nodes.{Standing}
use Rattle.raft_spec.specs.Log.{Entry}
use Rattle.raft_spec.specs.Node.{is_leader, Local, Propose}
use Rattle.raft_spec.specs.NodeValues.{NodeValue, IsCoherent, node_of}
use Rattle.raft_spec.specs.Compaction.{compacted_step}
use Rattle.raft_safety.specs.Members.{Setup}
use Rattle.store_laws.specs.Store.{Kept}
use Rattle.node_spec.specs.Steps.{Letter}
use Rattle.node_spec.specs.Accounts.{Moment, no_piece, Goes}

-- ---- a client's request

-- what a turn of a client leaves of Raft, of what is kept and of what is applied: all
pub record KeepsRaft (a b : Moment) : Type 0 where
  pub raft : b.node.raft ≡ a.node.raft
  pub kept : b.node.kept ≡ a.node.kept
  pub applied : b.applied ≡ a.applied
  pub serving : b.node.serving ≡ a.node.serving
  pub machine : IsMachine b.node.machine
  pub files : machine_of b.node.machine ≡ machine_of a.node.machine

-- a node at a moment, as its sessions see it
abbrev pub view_at : Moment → Standing → View
view_at a standing = record {
  id = standing.id;
  leader = standing.leader;
  serving = a.node.serving;
  term = a.node.raft.term;
  last = length (node_of a.node.raft).log;
  servers = standing.servers;
  links = standing.links;
  readers = standing.readers;
  even = standing.even;
  near = standing.near;
}

-- the sessions after what comes of a request
abbrev pub gate_after : Gateway → ℕ → Turned → Gateway
gate_after g conn (Refused cause) = g
gate_after g conn Lacks = g
gate_after g conn (Answers s reply note) = with_session g conn s
gate_after g conn (Suggests s contents note) = with_session g conn s
gate_after g conn (Lends s job) = with_session g conn s
gate_after g conn (Affects effect) = affected_by g effect

-- what is reported at once
abbrev pub told_at_once : ℕ → Turned → List (ℕ × Reply)
told_at_once conn (Refused cause) = (conn, Refusal cause) ∷ []
told_at_once conn Lacks = []
told_at_once conn (Answers s reply note) = (conn, reply) ∷ []
told_at_once conn (Suggests s contents note) = []
told_at_once conn (Lends s job) = []
told_at_once conn (Affects effect) = (conn, empty) ∷ []

-- what is due at Raft
abbrev pub due_by : ℕ → Turned → List (List Entry)
due_by term (Refused cause) = []
due_by term Lacks = []
due_by term (Answers s reply note) = []
due_by term (Suggests s contents note) = written term contents ∷ []
due_by term (Lends s job) = []
due_by term (Affects effect) = []

-- What a leader proposes reads back; it has no pages, or is a write's split pages, numbered by the term and the index of the first.
abbrev pub IsNumberedBy : ℕ → ℕ → List Content → Type 0
IsNumberedBy term last contents =
    (name : List ℕ) × (pages : List NumberedPage) × (last < 4294900000) × (contents ≡ map Does (split name (record { tx = tx_of term (suc last); pages = pages })))

abbrev pub MayPropose : View → Bool → Turned → Type 0
MayPropose v leads (Suggests s contents note) = (leads ≡ true) × AllByRecursion HasSpelling contents × (ArePlain v.serving contents ⊎ IsNumberedBy v.term v.last contents)
MayPropose v leads (Refused cause) = Unit {0}
MayPropose v leads Lacks = Unit {0}
MayPropose v leads (Answers s reply note) = Unit {0}
MayPropose v leads (Lends s job) = Unit {0}
MayPropose v leads (Affects effect) = Unit {0}

-- what is proposed reads back
abbrev pub AreSpelled : Turned → Type 0
AreSpelled (Suggests s contents note) = AllByRecursion HasSpelling contents
AreSpelled (Refused cause) = Unit {0}
AreSpelled Lacks = Unit {0}
AreSpelled (Answers s reply note) = Unit {0}
AreSpelled (Lends s job) = Unit {0}
AreSpelled (Affects effect) = Unit {0}

-- The outcome of a request may be proposed, if it reads back and only who leads serves; and so may that of a query that is run later
-- than it was asked.
abbrev pub RequestsMayPropose : Type 0
RequestsMayPropose =
    (v : View) (leads : Bool) (m : Machine) (g : Gateway) (conn : ℕ) (request : Request) (answers : List Answer) → (v.serving ≡ true → leads ≡ true) →
    AreSpelled (on_request v m g conn request answers) → MayPropose v leads (on_request v m g conn request answers)

abbrev pub LatersMayPropose : Type 0
LatersMayPropose =
    (v : View) (leads : Bool) (m : Machine) (g : Gateway) (conn : ℕ) (statement : Statement) (answers : List Answer) → (v.serving ≡ true → leads ≡ true) →
    AreSpelled (on_later v m g conn statement answers) → MayPropose v leads (on_later v m g conn statement answers)

-- A client's request was handled, if nothing was due at Raft: by answers that the engine may give, all of which it used, it came to
-- what the rules say.
pub record Handles (m : Meaning) (kind : EngineKind) (a b : Moment) (conn : ℕ) (request : Request) (replies : List (ℕ × Reply)) : Type 0 where
  pub standing : Standing
  pub answers : List Answer
  pub idle : a.due ≡ []
  pub ready : may_ask (a.node.sessions.session conn) ≡ true
  pub allowed : AllowsFor m kind (handed (view_at a standing) (machine_of a.node.machine) a.node.sessions conn request) answers
  pub exact : used_for (handed (view_at a standing) (machine_of a.node.machine) a.node.sessions conn request) answers ≡ length answers
  pub turned : Turned
  pub is : on_request (view_at a standing) (machine_of a.node.machine) a.node.sessions conn request answers ≡ turned
  pub comes : comes turned ≡ true
  pub proposes : MayPropose (view_at a standing) (is_leader a.node.raft.role) turned
  pub sessions : b.node.sessions ≡ gate_after a.node.sessions conn turned
  pub due : b.due ≡ due_by a.node.raft.term turned
  pub says : replies ≡ told_at_once conn turned
  pub waits : (other : ℕ) → a.node.waiting other ≡ cond (conn == other) (request ∷ []) [] ++ b.node.waiting other
  pub rest : KeepsRaft a b

-- That is a stretch, in which no reply waited. A query that it lends goes to a reader.
abbrev pub HandlingGoes : Meaning → EngineKind → Type 0
HandlingGoes m kind =
    (setup : Setup) (me : ℕ) (bytes : List ℕ) (joins : Option ℕ) (a b : Moment) (conn : ℕ) (request : Request) (replies : List (ℕ × Reply)) →
    (x : Handles m kind a b conn request replies) →
    Goes m kind setup me bytes joins a b (record no_piece { replies = replies; jobs = lends_by conn x.turned; answers = x.answers })

-- ---- Raft takes what is due

-- what is kept is what Raft's part has: term, vote, the entries past the cut, and where the snapshot ends
pub record KeepsAll (k : Kept) (h : NodeValue) : Type 0 where
  pub term : k.term ≡ h.term
  pub vote : k.vote ≡ h.vote
  pub log : k.log ≡ record { first = suc h.base; entries = h.entries }
  pub index : k.snap.index ≡ h.snapshot.index
  pub snap_term : k.snap.term ≡ h.snapshot.term

-- what a step of Raft leaves of sessions, databases and service, and of what waits: all
pub record KeepsClients (a b : Moment) : Type 0 where
  pub sessions : b.node.sessions ≡ a.node.sessions
  pub waiting : (conn : ℕ) → b.node.waiting conn ≡ a.node.waiting conn
  pub machine : IsMachine b.node.machine
  pub files : machine_of b.node.machine ≡ machine_of a.node.machine
  pub serving : b.node.serving ≡ a.node.serving
  pub applied : b.applied ≡ a.applied

-- A leader takes the first of the proposals that are due: its snapshot stays, and what it has is kept.
pub record Proposes (me : ℕ) (a b : Moment) (es : List Entry) (letters : List Letter) : Type 0 where
  pub due : a.due ≡ es ∷ b.due
  pub leads : is_leader a.node.raft.role ≡ true
  pub made : node_of b.node.raft ≡ (compacted_step me (node_of a.node.raft) (Local (Propose es))).node
  pub says : map (λ (l : Letter). l.message) letters ≡ (compacted_step me (node_of a.node.raft) (Local (Propose es))).out ++ []
  pub coherent : IsCoherent b.node.raft
  pub kept : KeepsAll b.node.kept b.node.raft
  pub snap : b.node.kept.snap ≡ a.node.kept.snap
  pub snapshot : b.node.raft.snapshot ≡ a.node.raft.snapshot
  pub front : a.node.raft.snapshot.index ≤ a.node.raft.commit
  pub rest : KeepsClients a b

-- that is a stretch with one input, without replies
abbrev pub ProposalGoes : Meaning → EngineKind → Type 0
ProposalGoes m kind =
    (setup : Setup) (me : ℕ) (bytes : List ℕ) (joins : Option ℕ) (a b : Moment) (es : List Entry) (letters : List Letter) →
    Proposes me a b es letters → Goes m kind setup me bytes joins a b (record no_piece { inputs = Local (Propose es) ∷ []; letters = letters })

-- ---- what a leader owes

-- A leader's own entries, as its Undos or a Checkpoint, are due after what is due: they have no pages, and read back.
pub record Owes (a b : Moment) (contents : List Content) : Type 0 where
  pub leads : is_leader a.node.raft.role ≡ true
  pub plain : ArePlain a.node.serving contents
  pub spelled : AllByRecursion HasSpelling contents
  pub due : b.due ≡ a.due ++ written a.node.raft.term contents ∷ []
  pub sessions : b.node.sessions ≡ a.node.sessions
  pub waiting : (conn : ℕ) → b.node.waiting conn ≡ a.node.waiting conn
  pub rest : KeepsRaft a b

-- that is a stretch of which nothing comes
abbrev pub OwingGoes : Meaning → EngineKind → Type 0
OwingGoes m kind =
    (setup : Setup) (me : ℕ) (bytes : List ℕ) (joins : Option ℕ) (a b : Moment) (contents : List Content) → Owes a b contents →
    Goes m kind setup me bytes joins a b no_piece
