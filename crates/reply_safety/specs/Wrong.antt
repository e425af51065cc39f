-- Wrong answers of a node, which the laws of this crate refuse.
use Rattle.std.specs.Prelude.{◌≡◌, ◌≢◌, ℕ, Bool, List, [], ◌∷◌, ◌++◌, Some, None}
use Rattle.dq_base.specs.declared.images.Image.{Image}
use Rattle.sql_engine.specs.declared.answer.StatementResult.{StatementResult}
use Rattle.sql_engine.specs.Meanings.{Meaning, reply_of}
use Rattle.sql_engine.specs.Replies.{Statement, Reply as StatementReply}
use Rattle.session_spec.specs.Asking.{Begins, Commits, Runs, Reads}
use Rattle.session_spec.specs.Entries.{Content, entries_of}
use Rattle.session_spec.specs.Machine.{base_at, image_at}
use Rattle.session_spec.specs.Sessions.{Reply, Rows, result, Writing, Querying, Flight, Transaction, Session, Note, Job, Answers, Proposes, Lends}
use Rattle.session_safety.specs.Nodes.{Node}
use Rattle.reply_safety.specs.Resting.{newest_of, StatementsRest, RestsRight, ReaderRests}

-- A write outside a transaction, which leaves no image as it was, is answered at once: nothing is proposed, so the write is lost.
abbrev pub NoDroppedWrite : Meaning → Type 0
NoDroppedWrite m =
    (w : Node) (conn count : ℕ) (statement : Statement) (s : Session) (note : Note) → (w.gate.session conn).tx ≡ None →
    ((image : Image) (r : StatementReply) → m.runs image statement image r → ⊥) →
    RestsRight m w conn (Runs (statement ∷ [])) (Answers s (result count) note) → ⊥

-- The entries that are proposed for a write lead to an image to which the statement does not lead.
abbrev pub NoOtherWrite : Meaning → Type 0
NoOtherWrite m =
    (w : Node) (conn : ℕ) (statement : Statement) (s : Session) (contents : List Content) (note : Note) (f : Flight) (reply : Reply) → s.flight ≡ Some f →
    f.kind ≡ Writing reply →
    ((r : StatementReply) → m.runs (newest_of w conn) statement (image_at (w.log ++ entries_of w.term contents) f.last f.name) r → ⊥) →
    RestsRight m w conn (Runs (statement ∷ [])) (Proposes s contents note) → ⊥

-- A RESULT in a transaction has another number than that of the rows that the statement changes.
abbrev pub NoOtherCount : Meaning → Type 0
NoOtherCount m =
    (w : Node) (conn count : ℕ) (statement : Statement) (s : Session) (note : Note) (x : Transaction) → (w.gate.session conn).tx ≡ Some x →
    ((before after : Image) (r : StatementReply) → m.runs before statement after r → r.affected ≢ count) →
    RestsRight m w conn (Runs (statement ∷ [])) (Answers s (result count) note) → ⊥

-- BEGIN is answered, and its transaction is over another image than the newest one.
abbrev pub NoStaleBegin : Meaning → Type 0
NoStaleBegin m =
    (w : Node) (conn : ℕ) (at_once : Bool) (s : Session) (reply : Reply) (note : Note) (x : Transaction) → s.tx ≡ Some x → x.pinned ≢ newest_of w conn →
    RestsRight m w conn (Begins at_once) (Answers s reply note) → ⊥

-- COMMIT is answered at once, though its transaction has changed the image: what it did is lost.
abbrev pub NoDroppedCommit : Meaning → Type 0
NoDroppedCommit m =
    (w : Node) (conn : ℕ) (s : Session) (reply : Reply) (note : Note) (x : Transaction) → (w.gate.session conn).tx ≡ Some x → x.working ≢ x.pinned →
    RestsRight m w conn Commits (Answers s reply note) → ⊥

-- COMMIT is proposed, though another commit of the database came since BEGIN: that one is lost.
abbrev pub NoLostUpdate : Meaning → Type 0
NoLostUpdate m =
    (w : Node) (conn : ℕ) (s : Session) (contents : List Content) (note : Note) (x : Transaction) → (w.gate.session conn).tx ≡ Some x →
    (base_at w.log w.applied x.name).newest ≢ x.mark →
    RestsRight m w conn Commits (Proposes s contents note) → ⊥

-- A query is lent to a reader over another image than the newest one.
abbrev pub NoOldReader : Meaning → Type 0
NoOldReader m =
    (w : Node) (conn : ℕ) (statement : Statement) (s : Session) (job : Job) → job.image ≢ newest_of w conn →
    RestsRight m w conn (Reads statement) (Lends s job) → ⊥

-- The barrier before a query is proposed for another query.
abbrev pub NoOtherQuery : Meaning → Type 0
NoOtherQuery m =
    (w : Node) (conn : ℕ) (statement other : Statement) (s : Session) (contents : List Content) (note : Note) (f : Flight) → s.flight ≡ Some f →
    f.kind ≡ Querying other → other ≢ statement →
    RestsRight m w conn (Reads statement) (Proposes s contents note) → ⊥

-- A query that waited for its barrier is answered by rows that it does not give over the newest image.
abbrev pub NoOtherRows : Meaning → Type 0
NoOtherRows m =
    (w : Node) (conn : ℕ) (statement : Statement) (s : Session) (answer : StatementResult) (note : Note) → (w.gate.session conn).tx ≡ None →
    ((after : Image) → m.runs (newest_of w conn) statement after (reply_of answer) → ⊥) →
    StatementsRest m w conn (w.gate.session conn).tx (statement ∷ []) (Answers s (Rows answer) note) → ⊥

-- A reader answers by rows that the query does not give over the image of its job.
abbrev pub NoOtherReading : Meaning → Type 0
NoOtherReading m =
    (image : Image) (statement : Statement) (answer : StatementResult) → (m.runs image statement image (reply_of answer) → ⊥) →
    ReaderRests m image statement (Rows answer) → ⊥
