-- Wrong histories, of which the headline does not hold; and one of which it holds.
use Rattle.std.specs.Prelude.{◌≡◌, ◌≢◌, ◌<◌, ℕ, Bool, true, false, List, [], ◌∷◌, codes, Option, Some, None, Ok, Err, slice_get}
use Rattle.dq_base.specs.declared.images.Image.{Image}
use Rattle.wire_words.specs.declared.value.Value.{Value}
use Rattle.wire_msgs.specs.declared.request.Request.TheVariants.{Open, Prepare, Exec, Finalize, ExecSql, QuerySql, Dump}
use Rattle.wire_msgs.specs.declared.response.Response.{Response}
use Rattle.wire_msgs.specs.declared.response.Response.TheVariants as responses
use Rattle.sql_scan.specs.declared.pieces.StatementSpan.{StatementSpan}
use Rattle.sql_scan.specs.declared.fault.ScanFault.{ScanFault}
use Rattle.sql_scan.specs.declared.heading.WordKind.{WordKind}
use Rattle.sql_scan.specs.declared.heading.WordKind.TheVariants as words
use Rattle.sql_scan.specs.Statements.{scan_of}
use Rattle.sql_engine.specs.Replies.{Statement, Reply}
use Rattle.sql_engine.specs.Meanings.{Meaning}
use Rattle.database_state.specs.Files.{Content, empty_image}
use Rattle.session_spec.specs.Statements.{prepared_from, with_all}
use Rattle.session_spec.specs.Asking.{files_of}
use Rattle.headline.specs.Headline.{Observation, Asks, Answers, Shows, Closes, GoesDown, Change, IsSentAs, HeadlineHolds}

-- ---- texts

-- No statement takes it away.
abbrev pub StaysInImages : Meaning → (Image → Type 0) → Type 0
StaysInImages m P = (before after : Image) (s : Statement) (r : Reply) → m.runs before s after r → P before → P after

-- There is an image that has it.
abbrev pub HasProperty : (Image → Type 0) → Option Image → Type 0
HasProperty P o = (image : Image) × (o ≡ Some image) × P image

abbrev pub IsMarked : (Image → Bool) → Image → Type 0
IsMarked marked image = marked image ≡ true

-- a text of one statement, without parameters
abbrev pub statement : List ℕ → StatementSpan → Statement
statement sql span = with_all (prepared_from sql span) []

-- The text is one statement of this kind, without parameters.
pub record IsSole (sql : List ℕ) (span : StatementSpan) (word : WordKind) : Type 0 where
  pub scans : scan_of sql ≡ Ok (span ∷ [])
  pub first : span.word ≡ word
  pub params : span.params ≡ 0

-- The text is one write, after which each image has a mark; a new database has none, and no statement takes it away.
pub record MarksImages (m : Meaning) (marked : Image → Bool) (sql : List ℕ) (span : StatementSpan) : Type 0 where
  pub sole : IsSole sql span words.Write
  pub new : marked empty_image ≡ false
  pub makes : (before after : Image) (r : Reply) → m.runs before (statement sql span) after r → marked after ≡ true
  pub stays : StaysInImages m (IsMarked marked)

-- The text is one write, which leaves no image as it was.
pub record MovesImages (m : Meaning) (sql : List ℕ) (span : StatementSpan) : Type 0 where
  pub sole : IsSole sql span words.Write
  pub moves : (image : Image) (r : Reply) → m.runs image (statement sql span) image r → ⊥

-- The text's one statement gives no image the mark.
abbrev pub KeepsUnmarked : Meaning → (Image → Bool) → List ℕ → StatementSpan → Type 0
KeepsUnmarked m marked sql span = (before after : Image) (r : Reply) → m.runs before (statement sql span) after r → marked before ≡ false → marked after ≡ false

-- The text is one query, which over an image with the mark does not send these rows.
pub record NeverSends (m : Meaning) (marked : Image → Bool) (sql : List ℕ) (span : StatementSpan) (rows : List Response) : Type 0 where
  pub sole : IsSole sql span words.Other
  pub differs : (before after : Image) (r : Reply) → m.runs before (statement sql span) after r → marked before ≡ true → IsSentAs true (r ∷ []) rows → ⊥
  pub no_refusal : (code : ℕ) (message : List ℕ) → rows ≢ responses.Failure code message ∷ []

-- ---- what is seen

-- a node shows that it leads a term, or that it does not lead
abbrev pub leads : ℕ → ℕ → ℕ → List Content → Observation
leads node term applied files = Shows node (record { term = term; leads = true; applied = applied; files = files })

abbrev pub follows : ℕ → ℕ → ℕ → List Content → Observation
follows node term applied files = Shows node (record { term = term; leads = false; applied = applied; files = files })

-- a client opens the database on a connection
abbrev pub opens : ℕ → ℕ → ℕ → Observation
opens node conn flags = Asks node conn (Some (Open (codes "d") flags (codes "v")))

abbrev pub opened : ℕ → ℕ → Observation
opened node conn = Answers node conn (responses.Db 0 ∷ [])

-- a client has a text run, which is answered by RESULT, or is refused
abbrev pub execs : ℕ → ℕ → List ℕ → Observation
execs node conn sql = Asks node conn (Some (ExecSql 0 sql [] false))

abbrev pub done : ℕ → ℕ → ℕ → Observation
done node conn count = Answers node conn (responses.Result 0 count ∷ [])

abbrev pub fails : ℕ → ℕ → ℕ → List ℕ → Observation
fails node conn code text = Answers node conn (responses.Failure code text ∷ [])

-- a client asks for the rows of a text
abbrev pub queries : ℕ → ℕ → List ℕ → Observation
queries node conn sql = Asks node conn (Some (QuerySql 0 sql [] false))

-- the database with this image
abbrev pub d : Image → Content
d image = record { name = codes "d"; image = image; pending = None }

-- Node 1 leads, and a client opens the database there.
abbrev pub starts : List Observation → List Observation
starts more = leads 1 1 0 [] ∷ opens 1 1 0 ∷ opened 1 1 ∷ more

-- The client writes, which is answered by RESULT.
abbrev pub wrote : List ℕ → ℕ → List Observation → List Observation
wrote sql count more = starts (execs 1 1 sql ∷ done 1 1 count ∷ more)

-- ---- answered writes

-- A RESULT means that the write is among the changes: whatever follows, a write that leaves no image as it was has a change.
abbrev pub AResultIsCommitted : Meaning → Type 0
AResultIsCommitted m =
    (sql : List ℕ) (span : StatementSpan) (count : ℕ) (more : List Observation) → MovesImages m sql span → (x : HeadlineHolds m (wrote sql count more)) →
    (i : ℕ) × (c : Change) × (slice_get x.holds.order i ≡ Some c) × (c.place ≡ 3)

-- The node that answered a write shows files without it.
abbrev pub NoLostWrite : Meaning → Type 0
NoLostWrite m =
    (marked : Image → Bool) (sql : List ℕ) (span : StatementSpan) (count applied : ℕ) → MarksImages m marked sql span → MovesImages m sql span →
    HeadlineHolds m (wrote sql count (leads 1 1 applied (d empty_image ∷ []) ∷ [])) → ⊥

-- The node goes down, another node answers a later write, and shows files without the first write.
abbrev pub NoWriteLostLater : Meaning → Type 0
NoWriteLostLater m =
    (marked : Image → Bool) (sql other : List ℕ) (span another : StatementSpan) (count many seen applied : ℕ) (old image : Image) →
    MarksImages m marked sql span → MovesImages m sql span → MovesImages m other another →
    marked image ≡ false →
    HeadlineHolds m (wrote sql count (GoesDown 1 ∷ leads 2 2 seen (d old ∷ []) ∷ opens 2 2 0 ∷ opened 2 2 ∷ execs 2 2 other ∷ done 2 2 many ∷ leads 2 2
    applied (d image ∷ []) ∷ [])) → ⊥

-- A message that can never be right is answered: a text that can't be split into statements, a statement that is left out, or a number under which nothing
-- was prepared, or a message that
-- does not read as a request, by RESULT; and a FINALIZE of a number under which nothing was prepared by EMPTY.
abbrev pub NoResultForText : Meaning → Type 0
NoResultForText m = (sql : List ℕ) (fault : ScanFault) (count : ℕ) → scan_of sql ≡ Err fault →
    HeadlineHolds m (starts (execs 1 1 sql ∷ done 1 1 count ∷ [])) → ⊥

abbrev pub NoResultForLeftOut : Meaning → Type 0
NoResultForLeftOut m = (sql : List ℕ) (span : StatementSpan) (count : ℕ) → IsSole sql span words.LeftOut →
    HeadlineHolds m (starts (execs 1 1 sql ∷ done 1 1 count ∷ [])) → ⊥

abbrev pub NoResultForNumber : Meaning → Type 0
NoResultForNumber m = (id count : ℕ) (params : List Value) (wide : Bool) → HeadlineHolds m
    (starts (Asks 1 1 (Some (Exec 0 id params wide)) ∷ done 1 1 count ∷ [])) → ⊥

abbrev pub NoResultForMessage : Meaning → Type 0
NoResultForMessage m = (count : ℕ) → HeadlineHolds m (starts (Asks 1 1 None ∷ done 1 1 count ∷ [])) → ⊥

abbrev pub NoEmptyForNumber : Meaning → Type 0
NoEmptyForNumber m = (id : ℕ) → HeadlineHolds m (starts (Asks 1 1 (Some (Finalize 0 id)) ∷ Answers 1 1 (responses.Empty ∷ []) ∷ [])) → ⊥

-- PREPARE reports a number that is in use.
abbrev pub NoNumberTwice : Meaning → Type 0
NoNumberTwice m =
    (sql other : List ℕ) (span another : StatementSpan) (id count many : ℕ) → IsSole sql span words.Write → IsSole other another words.Write →
    HeadlineHolds m (starts (Asks 1 1 (Some (Prepare 0 sql false)) ∷ Answers 1 1 (responses.Stmt 0 id count None ∷ []) ∷ Asks 1 1
    (Some (Prepare 0 other false)) ∷ Answers 1 1 (responses.Stmt 0 id many None ∷ []) ∷ [])) → ⊥

-- A write is answered by a node that its connection does not lead to; or after the connection was closed.
abbrev pub NoAnswerFromElsewhere : Meaning → Type 0
NoAnswerFromElsewhere m = (sql : List ℕ) (count : ℕ) → HeadlineHolds m (starts (execs 1 1 sql ∷ done 2 1 count ∷ [])) → ⊥

abbrev pub NoAnswerAfterClose : Meaning → Type 0
NoAnswerAfterClose m = (sql : List ℕ) (count : ℕ) → HeadlineHolds m (starts (execs 1 1 sql ∷ Closes 1 ∷ done 1 1 count ∷ [])) → ⊥

-- An answer to no message.
abbrev pub NoAnswerUnasked : Meaning → Type 0
NoAnswerUnasked m = (node conn : ℕ) (answer : List Response) → HeadlineHolds m (Answers node conn answer ∷ []) → ⊥

-- ---- rows

-- The connection that wrote is sent rows of an image without its write.
abbrev pub NoStaleRead : Meaning → Type 0
NoStaleRead m =
    (marked : Image → Bool) (sql query : List ℕ) (span another : StatementSpan) (count : ℕ) (rows : List Response) → MarksImages m marked sql span →
    MovesImages m sql span → NeverSends m marked query another rows →
    HeadlineHolds m (wrote sql count (queries 1 1 query ∷ Answers 1 1 rows ∷ [])) → ⊥

-- Another connection, at another node, has queries that wait for a barrier, and is sent these rows for a query that it sent after the write was answered.
abbrev pub NoSkippedBarrier : Meaning → Type 0
NoSkippedBarrier m =
    (marked : Image → Bool) (sql query : List ℕ) (span another : StatementSpan) (count applied : ℕ) (rows : List Response) → MarksImages m marked sql span →
    MovesImages m sql span → NeverSends m marked query another rows →
    HeadlineHolds m (wrote sql count (leads 2 2 applied [] ∷ opens 2 2 4294967296 ∷ opened 2 2 ∷ queries 2 2 query ∷ Answers 2 2 rows ∷ [])) → ⊥

-- After the leader has changed, a query without a barrier at the new leader is sent these rows.
abbrev pub NoStaleReadLater : Meaning → Type 0
NoStaleReadLater m =
    (marked : Image → Bool) (sql query : List ℕ) (span another : StatementSpan) (count applied : ℕ) (files : List Content) (rows : List Response) →
    MarksImages m marked sql span → MovesImages m sql span → NeverSends m marked query another rows →
    HeadlineHolds m (wrote sql count (leads 2 2 applied files ∷ opens 2 2 0 ∷ opened 2 2 ∷ queries 2 2 query ∷ Answers 2 2 rows ∷ [])) → ⊥

-- Another connection at the same node is sent these rows.
abbrev pub NoStaleReadHere : Meaning → Type 0
NoStaleReadHere m =
    (marked : Image → Bool) (sql query : List ℕ) (span another : StatementSpan) (count applied : ℕ) (files : List Content) (rows : List Response) →
    MarksImages m marked sql span → MovesImages m sql span → NeverSends m marked query another rows →
    HeadlineHolds m (wrote sql count (leads 1 1 applied files ∷ opens 1 2 0 ∷ opened 1 2 ∷ queries 1 2 query ∷ Answers 1 2 rows ∷ [])) → ⊥

-- Another connection at the same node begins a transaction after that, in which it is sent these rows.
abbrev pub NoStaleBegin : Meaning → Type 0
NoStaleBegin m =
    (marked : Image → Bool) (sql begin query : List ℕ) (span second another : StatementSpan) (at_once : Bool) (count applied : ℕ) (files : List Content)
    (rows : List Response) →
    MarksImages m marked sql span → MovesImages m sql span → IsSole begin second (words.Begin at_once) → NeverSends m marked query another rows →
    HeadlineHolds m (wrote sql count (leads 1 1 applied files ∷ opens 1 2 0 ∷ opened 1 2 ∷ execs 1 2 begin ∷ done 1 2 0 ∷ queries 1 2 query ∷ Answers 1 2 rows
    ∷ [])) → ⊥

-- The connection that wrote is sent the files of an image without its write.
abbrev pub NoStaleDump : Meaning → Type 0
NoStaleDump m =
    (marked : Image → Bool) (sql : List ℕ) (span : StatementSpan) (count : ℕ) (image : Image) → MarksImages m marked sql span → MovesImages m sql span →
    marked image ≡ false →
    HeadlineHolds m (wrote sql count (Asks 1 1 (Some (Dump (codes "d"))) ∷ Answers 1 1 (files_of (codes "d") image ∷ []) ∷ [])) → ⊥

-- A connection is sent rows that only images with the mark give, and its node then shows files without the mark.
abbrev pub NoDirtyRead : Meaning → Type 0
NoDirtyRead m =
    (marked unmarked : Image → Bool) (sql query : List ℕ) (span another : StatementSpan) (applied : ℕ) (image : Image) (rows : List Response) →
    MarksImages m marked sql span → ((i : Image) → marked i ≡ false → unmarked i ≡ true) →
    NeverSends m unmarked query another rows → marked image ≡ false →
    HeadlineHolds m (starts (opens 1 2 0 ∷ opened 1 2 ∷ execs 1 2 sql ∷ queries 1 1 query ∷ Answers 1 1 rows ∷ leads 1 1 applied (d image ∷ []) ∷ [])) → ⊥

-- Rows that the query gives over no image.
abbrev pub NoOtherReply : Meaning → Type 0
NoOtherReply m =
    (query : List ℕ) (span : StatementSpan) (rows : List Response) → NeverSends m (λ image. true) query span rows →
    HeadlineHolds m (starts (queries 1 1 query ∷ Answers 1 1 rows ∷ [])) → ⊥

-- ---- refused writes

-- A write is refused by a code other than 10506, and a node shows another image than the new database.
abbrev pub NoRefusedWrite : Meaning → Type 0
NoRefusedWrite m =
    (sql : List ℕ) (code applied : ℕ) (text : List ℕ) (image : Image) → code ≢ 10506 → image ≢ empty_image →
    HeadlineHolds m (starts (execs 1 1 sql ∷ fails 1 1 code text ∷ leads 1 1 applied (d image ∷ []) ∷ [])) → ⊥

-- A write is refused by 10506. A later write is answered by another node, which shows files without the first write, and then files with it.
abbrev pub NoLateWrite : Meaning → Type 0
NoLateWrite m =
    (marked : Image → Bool) (sql other : List ℕ) (span another : StatementSpan) (many seen applied last : ℕ) (text : List ℕ) (files : List Content)
    (image late : Image) →
    MarksImages m marked sql span → MovesImages m other another → KeepsUnmarked m marked other another → marked image ≡ false → marked late ≡ true →
    HeadlineHolds m (starts (execs 1 1 sql ∷ fails 1 1 10506 text ∷ leads 2 2 seen files ∷ opens 2 2 0 ∷ opened 2 2 ∷ execs 2 2 other ∷ done 2 2 many ∷ leads
    2 2 applied (d image ∷ []) ∷ leads 2 2 last (d late ∷ []) ∷ [])) → ⊥

-- A write is refused by 10506. A query that waits for a barrier does not find it, and then a node shows files with it.
abbrev pub NoLateWriteAfterBarrier : Meaning → Type 0
NoLateWriteAfterBarrier m =
    (marked : Image → Bool) (sql query : List ℕ) (span another : StatementSpan) (seen last : ℕ) (text : List ℕ) (files : List Content) (rows : List Response)
    (late : Image) →
    MarksImages m marked sql span → KeepsUnmarked m marked query another → NeverSends m marked query another rows → marked late ≡ true →
    HeadlineHolds m (starts (execs 1 1 sql ∷ fails 1 1 10506 text ∷ leads 2 2 seen files ∷ opens 2 2 4294967296 ∷ opened 2 2 ∷ queries 2 2 query ∷ Answers 2 2
    rows ∷ leads 2 2 last (d late ∷ []) ∷ [])) → ⊥

-- A node goes down with a write that it did not answer. A later write is answered by another node, which shows files without the first write, and then files
-- with it.
abbrev pub NoLateWriteOfDownNode : Meaning → Type 0
NoLateWriteOfDownNode m =
    (marked : Image → Bool) (sql other : List ℕ) (span another : StatementSpan) (many seen applied last : ℕ) (files : List Content) (image late : Image) →
    MarksImages m marked sql span → MovesImages m other another → KeepsUnmarked m marked other another → marked image ≡ false → marked late ≡ true →
    HeadlineHolds m (starts (execs 1 1 sql ∷ GoesDown 1 ∷ leads 2 2 seen files ∷ opens 2 2 0 ∷ opened 2 2 ∷ execs 2 2 other ∷ done 2 2 many ∷ leads 2 2
    applied (d image ∷ []) ∷ leads 2 2 last (d late ∷ []) ∷ [])) → ⊥

-- A connection sends two writes, which are answered; but a node shows files with the second and without the first.
abbrev pub NoSwappedWrites : Meaning → Type 0
NoSwappedWrites m =
    (first second : Image → Bool) (sql other : List ℕ) (span another : StatementSpan) (count many applied : ℕ) (image : Image) →
    MarksImages m first sql span → MovesImages m sql span → MarksImages m second other another →
    first image ≡ false → second image ≡ true →
    HeadlineHolds m (starts (execs 1 1 sql ∷ execs 1 1 other ∷ leads 1 1 applied (d image ∷ []) ∷ done 1 1 count ∷ done 1 1 many ∷ [])) → ⊥

-- A query is refused by 10506 by a node that then shows that it leads.
abbrev pub NoLossWhileLeading : Meaning → Type 0
NoLossWhileLeading m =
    (query text : List ℕ) (term applied : ℕ) (files : List Content) →
    HeadlineHolds m (starts (queries 1 1 query ∷ fails 1 1 10506 text ∷ leads 1 term applied files ∷ [])) → ⊥

-- ---- transactions

-- A write of a transaction that was rolled back is committed: a node shows another image than the new database.
abbrev pub NoRolledBackWrite : Meaning → Type 0
NoRolledBackWrite m =
    (begin sql back : List ℕ) (one two three : StatementSpan) (at_once : Bool) (count applied : ℕ) (image : Image) → IsSole begin one (words.Begin at_once) →
    IsSole sql two words.Write → IsSole back three words.Rollback →
    image ≢ empty_image →
    HeadlineHolds m (starts (execs 1 1 begin ∷ done 1 1 0 ∷ execs 1 1 sql ∷ done 1 1 count ∷ execs 1 1 back ∷ done 1 1 0 ∷ leads 1 1 applied (d image ∷ []) ∷
    [])) → ⊥

-- A write of a transaction is committed, though the message after it, as a COMMIT or a ROLLBACK, is refused by a code other than 10506.
abbrev pub NoCommitInParts : Meaning → Type 0
NoCommitInParts m =
    (begin sql end text : List ℕ) (one two : StatementSpan) (at_once : Bool) (count code applied : ℕ) (image : Image) →
    IsSole begin one (words.Begin at_once) → IsSole sql two words.Write → code ≢ 10506 → image ≢ empty_image →
    HeadlineHolds m (starts (execs 1 1 begin ∷ done 1 1 0 ∷ execs 1 1 sql ∷ done 1 1 count ∷ execs 1 1 end ∷ fails 1 1 code text ∷
    leads 1 1 applied (d image ∷ []) ∷ [])) → ⊥

-- A transaction commits, though another connection's write was answered since its BEGIN.
abbrev pub NoLostUpdate : Meaning → Type 0
NoLostUpdate m =
    (begin sql other commit : List ℕ) (one two three four : StatementSpan) (at_once : Bool) (count many : ℕ) → IsSole begin one (words.Begin at_once) →
    MovesImages m sql two → MovesImages m other three → IsSole commit four words.Commit →
    HeadlineHolds m (starts (opens 1 2 0 ∷ opened 1 2 ∷ execs 1 1 begin ∷ done 1 1 0 ∷ execs 1 2 other ∷ done 1 2 many ∷ execs 1 1 sql ∷ done 1 1 count ∷
    execs 1 1 commit ∷ done 1 1 0 ∷ [])) → ⊥

-- A statement of a transaction is refused by 10250, which reports that the transaction is lost. The next write is answered, though no ROLLBACK came before
-- it.
abbrev pub NoWriteAfterLoss : Meaning → Type 0
NoWriteAfterLoss m =
    (begin sql other text : List ℕ) (one two three : StatementSpan) (at_once : Bool) (many : ℕ) → IsSole begin one (words.Begin at_once) →
    IsSole sql two words.Write → IsSole other three words.Write →
    HeadlineHolds m (starts (execs 1 1 begin ∷ done 1 1 0 ∷ execs 1 1 sql ∷ fails 1 1 10250 text ∷ execs 1 1 other ∷ done 1 1 many ∷ [])) → ⊥

-- ---- nodes

-- Two nodes that have applied the same index have other files.
abbrev pub NoOtherFiles : Meaning → Type 0
NoOtherFiles m = (term other applied : ℕ) (f g : List Content) → f ≢ g → HeadlineHolds m (leads 1 term applied f ∷ follows 2 other applied g ∷ []) → ⊥

-- A node that does not go down shows a lower index than before.
abbrev pub NoStepBack : Meaning → Type 0
NoStepBack m = (term other high low : ℕ) (f g : List Content) → low < high → HeadlineHolds m (leads 1 term high f ∷ leads 1 other low g ∷ []) → ⊥

-- ---- what is allowed

-- The one text is a write, which leads from a new database to this image with this reply; the other is a query, which leaves the image and is sent these
-- rows.
pub record AllowsReading (m : Meaning) (sql query : List ℕ) (one two : StatementSpan) (after : Image) (r t : Reply) (rows : List Response) : Type 0 where
  pub write : IsSole sql one words.Write
  pub writes : m.runs empty_image (statement sql one) after r
  pub query_sole : IsSole query two words.Other
  pub reads : m.runs after (statement query two) after t
  pub sends : IsSentAs true (t ∷ []) rows
  pub no_refusal : (code : ℕ) (message : List ℕ) → rows ≢ responses.Failure code message ∷ []

-- A client opens a database and writes; its node shows the files of this write and goes down. Another node leads. Another client opens the database there,
-- asks for barriers, and is sent the write.
abbrev pub AHistoryIsAllowed : Meaning → Type 0
AHistoryIsAllowed m =
    (sql query : List ℕ) (one two : StatementSpan) (after : Image) (r t : Reply) (rows : List Response) → AllowsReading m sql query one two after r t rows →
    HeadlineHolds m (wrote sql r.affected (leads 1 1 3 (d after ∷ []) ∷ GoesDown 1 ∷ leads 2 2 4 (d after ∷ []) ∷ opens 2 2 4294967296 ∷ opened 2 2 ∷ queries
    2 2 query ∷ Answers 2 2 rows ∷ []))

-- A statement of a transaction is refused by 10250, which reports that the transaction is lost. The client ends it by ROLLBACK, which is answered by RESULT.
abbrev pub RollbackIsAllowed : Meaning → Type 0
RollbackIsAllowed m =
    (begin sql back text : List ℕ) (one two three : StatementSpan) (at_once : Bool) → IsSole begin one (words.Begin at_once) → IsSole sql two words.Write →
    IsSole back three words.Rollback →
    HeadlineHolds m (starts (execs 1 1 begin ∷ done 1 1 0 ∷ execs 1 1 sql ∷ fails 1 1 10250 text ∷ execs 1 1 back ∷ done 1 1 0 ∷ []))
