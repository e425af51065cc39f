-- What an answer to a request rests on: the request's own statements, run from one image to another.
use Rattle.std.specs.Prelude.{◌≡◌, ℕ, ◌-◌, true, List, [], ◌∷◌, ◌++◌, Option, Some, None}
use Rattle.dq_base.specs.declared.images.Image.{Image}
use Rattle.wire_msgs.specs.declared.request.Request.{Request}
use Rattle.sql_engine.specs.declared.kind.EngineKind.{EngineKind}
use Rattle.sql_engine.specs.Meanings.{Meaning, reply_of}
use Rattle.sql_engine.specs.Replies.{Statement, Reply as StatementReply}
use Rattle.sql_engine.specs.Runs.{RanAll}
use Rattle.session_spec.specs.Asking.{Asked, Begins, Commits, Runs, Reads, asked}
use Rattle.session_spec.specs.Engines.{Answer}
use Rattle.session_spec.specs.Entries.{Content, Entry, entries_of}
use Rattle.session_spec.specs.Machine.{base_at, image_at}
use Rattle.session_spec.specs.Sessions.{Reply, Refusal, Single, Rows, result, Kind, Opening, Configuring, Writing, Committing, Querying, Flight, later_query, lent_query, Transaction, Session, may_ask, Turned, Refused, Lacks, Answers, Proposes, Lends, Affects}
use Rattle.session_safety.specs.Nodes.{Node, Standing, databases, view_of, started}
use Rattle.session_safety.specs.Life.{Event, Call, Resume, Done, undue, outcome_later, job_at, told_at, AllFit}
use Rattle.session_safety.specs.Answering.{outcome}
use Rattle.session_safety.specs.Laws.{life, Starts}

-- The reply is that of the last of these statements: its rows, or how many rows it changed. Without a statement no row is changed.
abbrev pub IsLastReply : List StatementReply → Reply → Type 0
IsLastReply [] (Refusal cause) = ⊥
IsLastReply [] (Single response) = Single response ≡ result 0
IsLastReply [] (Rows answer) = ⊥
IsLastReply (r ∷ []) (Refusal cause) = ⊥
IsLastReply (r ∷ []) (Single response) = Single response ≡ result r.affected
IsLastReply (r ∷ []) (Rows answer) = r ≡ reply_of answer
IsLastReply (r ∷ s ∷ rs) reply = IsLastReply (s ∷ rs) reply

-- The statements ran from an image to another one, and the reply is that of the last of them.
pub record RanWithReply (m : Meaning) (from : Image) (ss : List Statement) (to : Image) (reply : Reply) : Type 0 where
  pub replies : List StatementReply
  pub ran : RanAll m from ss to replies
  pub last : IsLastReply replies reply

-- the image of a connection's database at what its node has applied
abbrev pub newest_of : Node → ℕ → Image
newest_of w conn = image_at w.log w.applied (w.gate.session conn).database

-- A transaction has another image than before, and the same beginning.
pub record SameBeginning (x y : Transaction) : Type 0 where
  pub name : y.name ≡ x.name
  pub mark : y.mark ≡ x.mark
  pub pinned : y.pinned ≡ x.pinned

-- An answer at once. Outside a transaction the statements left the newest image as it was. Inside they ran from the transaction's image to its next one.
abbrev pub AnswerRests : Meaning → Node → ℕ → Option Transaction → List Statement → Session → Reply → Type 0
AnswerRests m w conn None ss s reply = (s.tx ≡ None) × RanWithReply m (newest_of w conn) ss (newest_of w conn) reply
AnswerRests m w conn (Some x) ss s reply = (y : Transaction) × (s.tx ≡ Some y) × SameBeginning x y × RanWithReply m x.working ss y.working reply

-- The entries of a proposal lead from an image of its database to another one.
pub record LeadsToImage (w : Node) (contents : List Content) (f : Flight) (from to : Image) : Type 0 where
  pub before : image_at (w.log ++ entries_of w.term contents) (f.first - 1) f.name ≡ from
  pub after : image_at (w.log ++ entries_of w.term contents) f.last f.name ≡ to
  pub term : f.term ≡ w.term

-- A proposal for statements outside a transaction: their write, with the reply that it will get; or the barrier before a query.
abbrev pub ProposalRests : Meaning → Node → ℕ → List Statement → List Content → Flight → Kind → Type 0
ProposalRests m w conn ss contents f (Writing reply) = (f.name ≡ (w.gate.session conn).database) ×
    ((to : Image) × LeadsToImage w contents f (newest_of w conn) to × RanWithReply m (newest_of w conn) ss to reply)
ProposalRests m w conn ss contents f (Querying statement) = ss ≡ statement ∷ []
ProposalRests m w conn ss contents f Opening = ⊥
ProposalRests m w conn ss contents f (Configuring short) = ⊥
ProposalRests m w conn ss contents f Committing = ⊥

-- What comes of statements, by the transaction that is open: a refusal, an answer at once, a proposal, or a query that a reader runs over the newest image.
abbrev pub StatementsRest : Meaning → Node → ℕ → Option Transaction → List Statement → Turned → Type 0
StatementsRest m w conn o ss (Refused cause) = Unit {0}
StatementsRest m w conn o ss Lacks = Unit {0}
StatementsRest m w conn o ss (Answers s reply note) = AnswerRests m w conn o ss s reply
StatementsRest m w conn o ss (Proposes s contents note) = (o ≡ None) × ((f : Flight) × (s.flight ≡ Some f) × ProposalRests m w conn ss contents f f.kind)
StatementsRest m w conn o ss (Lends s job) = (o ≡ None) × (ss ≡ job.statement ∷ []) × (job.name ≡ (w.gate.session conn).database) ×
    (job.image ≡ newest_of w conn)
StatementsRest m w conn o ss (Affects effect) = ⊥

-- BEGIN is refused, or it begins a transaction over the newest image.
abbrev pub BeginRests : Node → ℕ → Turned → Type 0
BeginRests w conn (Refused cause) = Unit {0}
BeginRests w conn (Answers s reply note) = (reply ≡ result 0) × ((x : Transaction) × (s.tx ≡ Some x) × (x.name ≡ (w.gate.session conn).database) ×
    (x.pinned ≡ newest_of w conn) × (x.working ≡ newest_of w conn) × (x.mark ≡ (base_at w.log w.applied x.name).newest))
BeginRests w conn t = ⊥

-- COMMIT is refused; or its transaction has changed nothing; or it proposes what leads from the image of BEGIN to the image of the transaction, and no commit
-- of the database came since BEGIN.
abbrev pub CommitRests : Node → Option Transaction → Turned → Type 0
CommitRests w o (Refused cause) = Unit {0}
CommitRests w (Some x) (Answers s reply note) = (reply ≡ result 0) × (s.tx ≡ None) × (x.working ≡ x.pinned)
CommitRests w (Some x) (Proposes s contents note) = (f : Flight) × (s.flight ≡ Some f) × (f.kind ≡ Committing) × (f.name ≡ x.name) ×
    LeadsToImage w contents f x.pinned x.working × ((base_at w.log w.applied x.name).newest ≡ x.mark)
CommitRests w o t = ⊥

-- What comes of a request, by what it asks for.
abbrev pub RestsRight : Meaning → Node → ℕ → Asked → Turned → Type 0
RestsRight m w conn (Runs ss) t = StatementsRest m w conn (w.gate.session conn).tx ss t
RestsRight m w conn (Reads statement) t = StatementsRest m w conn (w.gate.session conn).tx (statement ∷ []) t
RestsRight m w conn (Begins at_once) t = BeginRests w conn t
RestsRight m w conn Commits t = CommitRests w (w.gate.session conn).tx t
RestsRight m w conn request t = Unit {0}

-- This holds of each request that a node handles.
abbrev pub RequestsRest : Meaning → EngineKind → Type 0
RequestsRest m kind =
    (log : List Entry) (applied term : ℕ) (es : List Event) (conn : ℕ) (standing : Standing) (request : Request) (answers : List Answer) →
    Starts log applied → AllFit m kind (started log applied term) (es ++ Call conn standing request answers ∷ []) →
    let w = life log applied term es in may_ask (w.gate.session conn) ≡ true →
    RestsRight m w conn (asked (view_of w standing) (databases w) w.gate conn request) (outcome w conn standing request answers)

-- It holds of a query that the node runs later than it was asked, after its barrier or in place of a reader.
abbrev pub LaterQueriesRest : Meaning → EngineKind → Type 0
LaterQueriesRest m kind =
    (log : List Entry) (applied term : ℕ) (es : List Event) (conn : ℕ) (standing : Standing) (statement : Statement) (answers : List Answer) →
    Starts log applied → AllFit m kind (started log applied term) (es ++ Resume conn standing answers ∷ []) →
    let w = life log applied term es in later_query (w.gate.session conn).later ≡ Some statement →
    StatementsRest m (undue w conn) conn ((undue w conn).gate.session conn).tx (statement ∷ []) (outcome_later w conn standing statement answers)

-- A reader's reply is a refusal, or its query left the image of its job as it was.
abbrev pub ReaderRests : Meaning → Image → Statement → Reply → Type 0
ReaderRests m image statement (Refusal cause) = Unit {0}
ReaderRests m image statement (Single response) = ⊥
ReaderRests m image statement (Rows answer) = RanWithReply m image (statement ∷ []) image (Rows answer)

abbrev pub ReadersRest : Meaning → EngineKind → Type 0
ReadersRest m kind =
    (log : List Entry) (applied term : ℕ) (es : List Event) (conn : ℕ) (answers : List Answer) (statement : Statement) (reply : Reply) →
    Starts log applied → AllFit m kind (started log applied term) (es ++ Done conn answers ∷ []) →
    let w = life log applied term es in lent_query (w.gate.session conn).later ≡ Some statement → told_at w conn statement answers ≡ Some reply →
    ReaderRests m (job_at w conn statement).image statement reply
