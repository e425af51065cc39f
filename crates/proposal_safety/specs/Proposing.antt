-- Which changes a request proposes, and how a request that proposed one is answered.
use Rattle.std.specs.Prelude.{◌≡◌, ℕ, ◌+◌, ◌<◌, true, false, List, [], ◌∷◌, ◌++◌, Some}
use Rattle.log_commands.specs.declared.command.Command.{Command}
use Rattle.log_commands.specs.declared.command.Command.TheVariants.{OpenDb, Frames, Undo, Checkpoint}
use Rattle.wire_msgs.specs.declared.request.Request.{Request}
use Rattle.sql_engine.specs.declared.kind.EngineKind.{EngineKind}
use Rattle.sql_engine.specs.Meanings.{Meaning}
use Rattle.sql_engine.specs.Replies.{Statement}
use Rattle.session_spec.specs.Causes.{LeadershipLost}
use Rattle.session_spec.specs.Engines.{Answer}
use Rattle.session_spec.specs.Entries.{Content, Does, Configures, Other, Entry, entries_of}
use Rattle.session_spec.specs.Machine.{Machine}
use Rattle.session_spec.specs.Requests.{on_request, on_later}
use Rattle.session_spec.specs.Sessions.{Reply, Refusal, Single, Rows, Kind, Opening, Configuring, Writing, Committing, Querying, Flight, Session, Gateway, View, may_ask, Turned, Refused, Lacks, Answers, Proposes, Lends, Affects}
use Rattle.session_safety.specs.Answering.{outcome, said_to}
use Rattle.session_safety.specs.Laws.{life, Starts, NoneComes}
use Rattle.session_safety.specs.Life.{Event, Call, called, AllFit}
use Rattle.session_safety.specs.Nodes.{Said, Node, Standing, started}

-- ---- changes

-- how many changes a command makes: one if it opens a database, or commits pages
abbrev pub command_count : Command → ℕ
command_count (OpenDb name) = 1
command_count (Frames name tx truncate true pages) = 1
command_count (Frames name tx truncate false pages) = 0
command_count (Undo tx) = 0
command_count (Checkpoint name) = 0

abbrev pub content_count : Content → ℕ
content_count (Does command) = command_count command
content_count (Configures servers) = 0
content_count Other = 0

abbrev pub change_count : List Content → ℕ
change_count [] = 0
change_count (content ∷ contents) = content_count content + change_count contents

-- how many changes a pending proposal makes, by its kind
abbrev pub kind_count : Kind → ℕ
kind_count Opening = 1
kind_count (Configuring short) = 0
kind_count (Writing reply) = 1
kind_count Committing = 1
kind_count (Querying statement) = 0

-- ---- what a request proposes

-- what is appended to the log by what comes of a request
abbrev pub proposed : Turned → List Content
proposed (Refused cause) = []
proposed Lacks = []
proposed (Answers session reply note) = []
proposed (Proposes session contents note) = contents
proposed (Lends session job) = []
proposed (Affects effect) = []

-- A refusal names a loss of leadership as its cause.
abbrev pub IsLossIfRefused : Reply → Type 0
IsLossIfRefused (Refusal cause) = cause ≡ LeadershipLost
IsLossIfRefused (Single response) = Unit {0}
IsLossIfRefused (Rows answer) = Unit {0}

abbrev pub HasReply : Kind → Type 0
HasReply Opening = Unit {0}
HasReply (Configuring short) = Unit {0}
HasReply (Writing reply) = IsLossIfRefused reply
HasReply Committing = Unit {0}
HasReply (Querying statement) = Unit {0}

-- The session's pending proposal is that of these contents. They make as many changes as its kind says: one at most.
pub record IsOneProposal (s : Session) (contents : List Content) : Type 0 where
  pub flight : Flight
  pub is : s.flight ≡ Some flight
  pub count : change_count contents ≡ kind_count flight.kind
  pub reply : HasReply flight.kind

abbrev pub ProposesOneIfAny : Turned → Type 0
ProposesOneIfAny (Refused cause) = Unit {0}
ProposesOneIfAny Lacks = Unit {0}
ProposesOneIfAny (Answers session reply note) = Unit {0}
ProposesOneIfAny (Proposes session contents note) = IsOneProposal session contents
ProposesOneIfAny (Lends session job) = Unit {0}
ProposesOneIfAny (Affects effect) = Unit {0}

-- A request proposes one change at most; and so does a query that is run later than it was asked.
abbrev pub RequestsProposeOnce : Type 0
RequestsProposeOnce = (v : View) (m : Machine) (g : Gateway) (conn : ℕ) (request : Request) (answers : List Answer) →
    ProposesOneIfAny (on_request v m g conn request answers)

abbrev pub LatersProposeOnce : Type 0
LatersProposeOnce = (v : View) (m : Machine) (g : Gateway) (conn : ℕ) (statement : Statement) (answers : List Answer) →
    ProposesOneIfAny (on_later v m g conn statement answers)

-- The log grows by just what is proposed. So a request that is refused at once leaves the log as it was.
abbrev pub LogsGrowByProposals : Type 0
LogsGrowByProposals = (w : Node) (conn : ℕ) (t : Turned) → (called w conn t).log ≡ w.log ++ entries_of w.term (proposed t)

-- ---- how it is answered

abbrev pub FirstIsLossIfRefused : List Said → Type 0
FirstIsLossIfRefused [] = Unit {0}
FirstIsLossIfRefused (x ∷ xs) = IsLossIfRefused x.reply

-- From one moment of a node to another: the first reply to the connection is no refusal, or names a loss of leadership.
pub record AnswersProposal (conn : ℕ) (w v : Node) : Type 0 where
  pub more : List Said
  pub said : v.said ≡ w.said ++ more
  pub first : FirstIsLossIfRefused (said_to conn more)

-- A proposal that makes a change is pending. Then the next reply to its connection is no refusal, or names a loss of leadership: so a request that is refused
-- for another cause proposed no change.
abbrev pub ProposalsAreAnswered : Meaning → EngineKind → Type 0
ProposalsAreAnswered m kind =
    (log : List Entry) (applied term : ℕ) (es fs : List Event) (conn : ℕ) (f : Flight) → Starts log applied →
    AllFit m kind (started log applied term) (es ++ fs) → NoneComes conn fs →
    ((life log applied term es).gate.session conn).flight ≡ Some f → 0 < kind_count f.kind → HasReply f.kind →
    AnswersProposal conn (life log applied term es) (life log applied term (es ++ fs))

-- A request is handled that proposes a change. Then the first reply to its connection from there on is no refusal, or names a loss of leadership.
abbrev pub ChangesAreAnswered : Meaning → EngineKind → Type 0
ChangesAreAnswered m kind =
    (log : List Entry) (applied term : ℕ) (es fs : List Event) (conn : ℕ) (standing : Standing) (request : Request) (answers : List Answer) →
    Starts log applied → AllFit m kind (started log applied term) (es ++ Call conn standing request answers ∷ fs) → NoneComes conn fs →
    let w = life log applied term es in
    may_ask (w.gate.session conn) ≡ true → 0 < change_count (proposed (outcome w conn standing request answers)) →
    AnswersProposal conn w (life log applied term (es ++ Call conn standing request answers ∷ fs))
