-- What holds of each request, and of the databases that commands make.
use Rattle.std.specs.Prelude.{◌≡◌, ◌⊎◌, ℕ, Bool, true, false, List, [], ◌∷◌, Option, Some, None}
use Rattle.dq_base.specs.declared.images.Image.{Image}
use Rattle.dq_base.specs.Changes.{changed}
use Rattle.wire_msgs.specs.declared.request.Request.{Request}
use Rattle.wire_msgs.specs.declared.request.Request.TheVariants as requests
use Rattle.log_commands.specs.declared.command.Command.{Command}
use Rattle.log_commands.specs.declared.command.Command.TheVariants.{OpenDb}
use Rattle.raft_spec.specs.Node.{Server}
use Rattle.sql_engine.specs.Replies.{Statement}
use Rattle.database_state.specs.declared.database.Database.{Database}
use Rattle.database_state.specs.Machines.{IsMachine}
use Rattle.database_state.specs.Databases.{act as act_on_databases}
use Rattle.session_spec.specs.Causes.{NotLeader, failure}
use Rattle.session_spec.specs.Entries.{Content, Does, Configures, Other}
use Rattle.session_spec.specs.Machine.{Machine, machine_of, act}
use Rattle.session_spec.specs.Engines.{Answer, Handed}
use Rattle.session_spec.specs.Sessions.{Reply, Refusal, Single, Rows, result, Session, in_tx, Gateway, View, Job, Note, Nothing, Began, Inside, Outside, Turned, Refused, Lacks, Answers, Proposes, Lends, Affects}
use Rattle.session_spec.specs.Allowed.{IsFailure}
use Rattle.session_spec.specs.Events.{is_committing, on_lost}
use Rattle.session_spec.specs.Requests.{change_of, with_lost, with_session, on_request, handed, on_later, handed_later}
use Rattle.session_spec.specs.Outcomes.{gateway_after, reply_at_once, proposed_by}

-- ---- refusals

-- the reply is told as a FAILURE
abbrev pub IsRefusal : Reply → Type 0
IsRefusal (Refusal cause) = Unit {0}
IsRefusal (Single response) = IsFailure response
IsRefusal (Rows answer) = ⊥

abbrev pub IsRefused : Option Reply → Type 0
IsRefused None = ⊥
IsRefused (Some reply) = IsRefusal reply

-- a lost transaction of the connection ended, and nothing else changed
pub record LossEnds (g : Gateway) (conn : ℕ) (new : Gateway) : Type 0 where
  pub lost : (g.session conn).lost ≡ true
  pub gateway : new ≡ with_session g conn (with_lost (g.session conn) false)

-- Nothing came of a request, except that it ended a lost transaction: else the sessions are as they were, and nothing is appended.
pub record NothingDone (g : Gateway) (conn : ℕ) (turned : Turned) : Type 0 where
  pub gateway : (gateway_after g conn turned ≡ g) ⊎ LossEnds g conn (gateway_after g conn turned)
  pub none : proposed_by turned ≡ []

-- This holds for each request that is answered by a FAILURE.
abbrev pub RefusalsKeep : Type 0
RefusalsKeep = (v : View) (m : Machine) (g : Gateway) (conn : ℕ) (request : Request) (answers : List Answer) → IsRefused (reply_at_once (on_request v m g conn request answers)) → NothingDone g conn (on_request v m g conn request answers)

-- ---- notes

-- what is noted are the statements that were handed over, all of them
abbrev pub NoteTells : Option Handed → Note → Type 0
NoteTells None Nothing = Unit {0}
NoteTells None Began = Unit {0}
NoteTells None (Inside name ss) = ⊥
NoteTells None (Outside name ss) = ⊥
NoteTells (Some handed) Nothing = ⊥
NoteTells (Some handed) Began = ⊥
NoteTells (Some handed) (Inside name ss) = ss ≡ handed.statements
NoteTells (Some handed) (Outside name ss) = ss ≡ handed.statements

-- a reader runs what was handed over, over the same image
abbrev pub LendsHanded : Option Handed → Job → Type 0
LendsHanded None job = ⊥
LendsHanded (Some handed) job = (job.image ≡ handed.image) × (job.statement ∷ [] ≡ handed.statements)

abbrev pub TurnedTells : Option Handed → Turned → Type 0
TurnedTells handed (Refused cause) = Unit {0}
TurnedTells handed Lacks = Unit {0}
TurnedTells handed (Answers s reply note) = NoteTells handed note
TurnedTells handed (Proposes s contents note) = NoteTells handed note
TurnedTells handed (Lends s job) = LendsHanded handed job
TurnedTells handed (Affects effect) = handed ≡ None

-- What is noted of an answered request is all that it handed to the engine.
abbrev pub NotesTell : Type 0
NotesTell = (v : View) (m : Machine) (g : Gateway) (conn : ℕ) (request : Request) (answers : List Answer) → TurnedTells (handed v m g conn request) (on_request v m g conn request answers)

-- ---- proposals

-- these entries are the change of pages from one image of a database to another, as the next of the view's term
pub record IsChange (v : View) (contents : List Content) : Type 0 where
  pub name : List ℕ
  pub from : Image
  pub to : Image
  pub is : contents ≡ change_of v name (changed from to)

-- the entry is a new database, other servers of the cluster, or a barrier
abbrev pub IsSole : List Content → Type 0
IsSole contents = ((name : List ℕ) × (contents ≡ Does (OpenDb name) ∷ [])) ⊎ (((servers : List Server) × (contents ≡ Configures servers ∷ [])) ⊎ (contents ≡ Other ∷ []))

abbrev pub ProposalIs : View → Turned → Type 0
ProposalIs v (Refused cause) = Unit {0}
ProposalIs v Lacks = Unit {0}
ProposalIs v (Answers s reply note) = Unit {0}
ProposalIs v (Proposes s contents note) = IsChange v contents ⊎ IsSole contents
ProposalIs v (Lends s job) = Unit {0}
ProposalIs v (Affects effect) = Unit {0}

-- What a request proposes is a split change of pages, or one entry: never a statement.
abbrev pub ProposesPages : Type 0
ProposesPages = (v : View) (m : Machine) (g : Gateway) (conn : ℕ) (request : Request) (answers : List Answer) → ProposalIs v (on_request v m g conn request answers)

-- ---- queries that are run later than they were asked

-- What holds of a query that the node runs after its barrier, or as a reader gave it back.
pub record LaterKeeps (v : View) (m : Machine) (g : Gateway) (conn : ℕ) (statement : Statement) (answers : List Answer) : Type 0 where
  pub refusals : IsRefused (reply_at_once (on_later v m g conn statement answers)) → NothingDone g conn (on_later v m g conn statement answers)
  pub notes : TurnedTells (handed_later v m g conn statement) (on_later v m g conn statement answers)
  pub proposes : ProposalIs v (on_later v m g conn statement answers)

abbrev pub LatersKeep : Type 0
LatersKeep = (v : View) (m : Machine) (g : Gateway) (conn : ℕ) (statement : Statement) (answers : List Answer) → LaterKeeps v m g conn statement answers

-- ---- transactions that are lost with leadership

-- A request with a statement is about the transaction of its connection.
abbrev pub has_statement : Request → Bool
has_statement (requests.Prepare db sql wide) = true
has_statement (requests.Exec db id params wide) = true
has_statement (requests.Query db id params wide) = true
has_statement (requests.ExecSql db sql params wide) = true
has_statement (requests.QuerySql db sql params wide) = true
has_statement request = false

-- A refusal by `not leader` leaves the transaction lost. A COMMIT that is refused by the same ends it, and so does a ROLLBACK, which
-- gets a RESULT.
abbrev pub ReportsLoss : Session → Turned → Type 0
ReportsLoss s (Refused cause) = cause ≡ NotLeader
ReportsLoss s Lacks = ⊥
ReportsLoss s (Answers t reply note) = (t ≡ with_lost s false) × (note ≡ Nothing) × ((reply ≡ Single (failure NotLeader)) ⊎ (reply ≡ result 0))
ReportsLoss s (Proposes t contents note) = ⊥
ReportsLoss s (Lends t job) = ⊥
ReportsLoss s (Affects effect) = ⊥

-- nothing is handed to the engine
pub record LossReported (v : View) (m : Machine) (g : Gateway) (conn : ℕ) (request : Request) (answers : List Answer) : Type 0 where
  pub reports : ReportsLoss (g.session conn) (on_request v m g conn request answers)
  pub handed : handed v m g conn request ≡ None

-- While a transaction is lost, each request of its connection with a statement reports it, at any node.
abbrev pub LossesAreReported : Type 0
LossesAreReported = (v : View) (m : Machine) (g : Gateway) (conn : ℕ) (request : Request) (answers : List Answer) → (g.session conn).lost ≡ true → has_statement request ≡ true → LossReported v m g conn request answers

-- With leadership each open transaction is lost, unless its COMMIT is proposed, and a lost one stays lost.
pub record TakesTransaction (g : Gateway) (conn : ℕ) : Type 0 where
  pub opened : in_tx (g.session conn) ≡ true → is_committing (g.session conn).flight ≡ false → ((on_lost g).session conn).lost ≡ true
  pub stays : (g.session conn).lost ≡ true → ((on_lost g).session conn).lost ≡ true

abbrev pub LossesAreMarked : Type 0
LossesAreMarked = (g : Gateway) (conn : ℕ) → (g.session conn).hung ≡ false → TakesTransaction g conn

-- ---- state machines

-- A command does to the databases of a node what it does to the map from names that they are.
abbrev pub MachinesFollow : Type 0
MachinesFollow = (databases : List Database) (command : Command) → IsMachine databases → machine_of (act_on_databases databases command) ≡ act (machine_of databases) command
