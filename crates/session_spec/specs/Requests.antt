-- What comes of a request at a session, with the answers of an engine to the statements that it is handed.
use Rattle.std.specs.Prelude.{ℕ, suc, ◌+◌, Bool, true, false, not, ◌&&◌, ◌||◌, ◌==◌, List, [], ◌∷◌, ◌++◌, length, map, is_none, Option, Some, None, Result, Ok, Err, if◌then◌else◌}
use Rattle.dq_base.specs.declared.images.Image.{Image}
use Rattle.dq_base.specs.declared.pages.NumberedPage.{NumberedPage}
use Rattle.dq_base.specs.Images.{page_count}
use Rattle.dq_base.specs.Changes.{changed}
use Rattle.wire_msgs.specs.declared.request.Request.{Request}
use Rattle.wire_msgs.specs.declared.response.Response.TheVariants as responses
use Rattle.wire_rows.specs.declared.fault.RowFault.{RowFault}
use Rattle.wire_rows.specs.declared.fault.RowFault.TheVariants as row_faults
use Rattle.wire_rows.specs.Answering.{parts_of}
use Rattle.log_commands.specs.declared.command.Command.TheVariants.{OpenDb}
use Rattle.log_commands.specs.Splitting.{split}
use Rattle.sql_engine.specs.declared.answer.StatementResult.{StatementResult}
use Rattle.sql_engine.specs.Replies.{Statement}
use Rattle.database_state.specs.Files.{empty_image}
use Rattle.session_spec.specs.Causes.{Cause, NotLeader, NulInText, AnswerTooBig, OutOfMemory, Locked, LogFull, DatabaseFull, NoTransaction, engine_cause}
use Rattle.session_spec.specs.Entries.{Content, Does, Configures, Other, tx_of}
use Rattle.session_spec.specs.Machine.{Base, Machine}
use Rattle.session_spec.specs.Engines.{Answer, no_pages, Ending, Lacking, TooLarge, Stopped, Ended, is_cut, no_answer, runs, Handed}
use Rattle.session_spec.specs.Sessions.{Reply, Refusal, Single, Rows, result, empty, db, Prepared, Kind, Opening, Configuring, Writing, Committing, Querying, Flight, Transaction, Later, Lent, Session, Gateway, View, Job, Nothing, Began, Inside, Outside, Effect, HandsOver, JoinsPeer, Weighs, Turned, Refused, Lacks, Answers, Proposes, Lends, Affects}
use Rattle.session_spec.specs.Statements.{free_id, with_prepared, without_prepared}
use Rattle.session_spec.specs.Limits.{other_holds, pages_full, log_full, first_cause, change_refusal}
use Rattle.session_spec.specs.Touched.{numbers_of}
use Rattle.session_spec.specs.Asking.{Asked, Never, Tells, Sets, Opens, Creates, Prepares, Drops, Forgets, Begins, Commits, RollsBack, Changes, Runs, Reads, asked}

-- ---- the session after it

abbrev pub with_tx : Session → Option Transaction → Session
with_tx s tx = record { there = s.there; hung = s.hung; database = s.database; barriers = s.barriers; later = s.later; statements = s.statements; tx = tx; lost = s.lost; flight = s.flight }

-- the session with this proposal, or none
abbrev pub with_flight : Session → Option Flight → Session
with_flight s flight = record { there = s.there; hung = s.hung; database = s.database; barriers = s.barriers; later = s.later; statements = s.statements; tx = s.tx; lost = s.lost; flight = flight }

abbrev pub with_statements : Session → List (Option Prepared) → Session
with_statements s statements = record { there = s.there; hung = s.hung; database = s.database; barriers = s.barriers; later = s.later; statements = statements; tx = s.tx; lost = s.lost; flight = s.flight }

-- the session with this database, and no proposal
abbrev pub with_database : Session → List ℕ → Session
with_database s name = record { there = s.there; hung = s.hung; database = name; barriers = s.barriers; later = s.later; statements = s.statements; tx = s.tx; lost = s.lost; flight = None }

-- the session that asks for barrier reads, or doesn't
abbrev pub with_barriers : Session → Bool → Session
with_barriers s barriers = record { there = s.there; hung = s.hung; database = s.database; barriers = barriers; later = s.later; statements = s.statements; tx = s.tx; lost = s.lost; flight = s.flight }

-- the session with a query that waits for its answer, or none
abbrev pub with_later : Session → Option Later → Session
with_later s later = record { there = s.there; hung = s.hung; database = s.database; barriers = s.barriers; later = later; statements = s.statements; tx = s.tx; lost = s.lost; flight = s.flight }

-- the session whose transaction is lost, or isn't
abbrev pub with_lost : Session → Bool → Session
with_lost s lost = record { there = s.there; hung = s.hung; database = s.database; barriers = s.barriers; later = s.later; statements = s.statements; tx = s.tx; lost = lost; flight = s.flight }

-- a transaction over the newest image of a database
abbrev pub begun_over : List ℕ → Base → Bool → Transaction
begun_over name base at_once = record { name = name; mark = base.newest; pinned = base.image; working = base.image; turn = at_once; touched = [] }

abbrev pub begun : Machine → Session → Bool → Session
begun m s at_once = with_tx s (Some (begun_over s.database (m.base s.database) at_once))

-- the transaction with another image of its own, for which its statements changed pages
abbrev pub worked : Session → Transaction → Image → Bool → Session
worked s x to turn = with_tx s (Some (record { name = x.name; mark = x.mark; pinned = x.pinned; working = to; turn = turn; touched = x.touched ++ numbers_of (changed x.working to) }))

-- a proposal of these entries, which come next in the log
abbrev pub flying : View → Session → List ℕ → List Content → ℕ → Kind → Session
flying v s name contents pages kind = with_flight s (Some (record { name = name; first = suc v.last; last = v.last + length contents; term = v.term; pages = pages; kind = kind }))

-- ---- statements

-- refused if there is a cause
abbrev pub unless : Option Cause → Turned → Turned
unless None turned = turned
unless (Some cause) turned = Refused cause

-- why rows can't be sent
abbrev pub rows_cause : Result (List (List ℕ)) RowFault → Option Cause
rows_cause (Ok parts) = None
rows_cause (Err (row_faults.Nul row column)) = Some NulInText
rows_cause (Err (row_faults.TooBig bytes)) = Some AnswerTooBig
rows_cause (Err row_faults.NoMemory) = Some OutOfMemory

abbrev pub or_cause : Option Cause → Option Cause → Option Cause
or_cause None later = later
or_cause (Some cause) later = Some cause

-- if rows are to be sent, why they can't be; else what hinders besides
unfoldable pub row_cause : Bool → StatementResult → Option Cause → Option Cause
row_cause rows answer others = if rows then or_cause (rows_cause (parts_of answer.columns answer.rows)) others else others

-- the reply to statements that ran
abbrev pub reply_of : Bool → StatementResult → Reply
reply_of true answer = Rows answer
reply_of false answer = result answer.affected

-- the entries that change the pages of a database, as the next of the view's term
abbrev pub change_of : View → List ℕ → List NumberedPage → List Content
change_of v name pages = map Does (split name (record { tx = tx_of v.term (suc v.last); pages = pages }))

-- outside a transaction a write is proposed, if nothing hinders it: the log's end, rows that can't be sent, the write lock, pages
unfoldable pub outside_write : View → Machine → Gateway → ℕ → Session → List Statement → Bool → List NumberedPage → Image → StatementResult → Turned
outside_write v m g conn s ss rows pages to answer =
    unless (first_cause (log_full v) LogFull (row_cause rows answer (change_refusal m g conn s.database (m.base s.database).newest pages to)))
    (Proposes (flying v s s.database (change_of v s.database pages) (page_count to) (Writing (reply_of rows answer))) (change_of v s.database pages) (Outside s.database ss))

-- Statements outside a transaction ended, over the newest image.
unfoldable pub outside : View → Machine → Gateway → ℕ → Session → List Statement → Bool → Ending → Turned
outside v m g conn s ss rows Lacking = Lacks
outside v m g conn s ss rows (TooLarge answer) = unless (first_cause (log_full v) LogFull (row_cause rows answer (change_refusal m g conn s.database (m.base s.database).newest answer.after.pages (m.base s.database).image))) (Refused DatabaseFull)
outside v m g conn s ss rows (Stopped fault) = Refused (engine_cause fault)
outside v m g conn s ss rows (Ended to answer) =
    let pages = changed (m.base s.database).image to in
    if no_pages pages
    then unless (row_cause rows answer None) (Answers s (reply_of rows answer) (Outside s.database ss))
    else outside_write v m g conn s ss rows pages to answer

-- Statements inside a transaction ended, over its working image. The first that changes pages takes the write lock.
unfoldable pub inside : Machine → Gateway → ℕ → Session → Transaction → List Statement → Bool → Ending → Turned
inside m g conn s x ss rows Lacking = Lacks
inside m g conn s x ss rows (TooLarge answer) = unless (row_cause rows answer (change_refusal m g conn x.name x.mark answer.after.pages x.working)) (Refused DatabaseFull)
inside m g conn s x ss rows (Stopped fault) = Refused (engine_cause fault)
inside m g conn s x ss rows (Ended to answer) =
    let pages = changed x.working to in
    if no_pages pages
    then unless (row_cause rows answer None) (Answers (worked s x to x.turn) (reply_of rows answer) (Inside x.name ss))
    else unless (row_cause rows answer (change_refusal m g conn x.name x.mark pages to)) (Answers (worked s x to true) (reply_of rows answer) (Inside x.name ss))

-- over which image a session's statements run
abbrev pub ground : Machine → Session → Option Transaction → Image
ground m s None = (m.base s.database).image
ground m s (Some x) = x.working

abbrev pub run_in : View → Machine → Gateway → ℕ → Session → Option Transaction → List Statement → Bool → List Answer → Turned
run_in v m g conn s None ss rows answers = outside v m g conn s ss rows (runs (m.base s.database).image no_answer ss answers)
run_in v m g conn s (Some x) ss rows answers = inside m g conn s x ss rows (runs x.working no_answer ss answers)

-- ---- the end of a transaction

-- whether a transaction has nothing to commit: it never took the write lock, or no page differs
abbrev pub has_nothing : Transaction → Bool
has_nothing x = not x.turn || no_pages (changed x.pinned x.working)

-- A commit proposes the pages that differ between pinned and working image; with nothing to commit the transaction is over.
unfoldable pub committed : View → Machine → Gateway → ℕ → Session → Transaction → Turned
committed v m g conn s x =
    let pages = changed x.pinned x.working in
    if has_nothing x
    then Answers (with_tx s None) (result 0) Nothing
    else unless (first_cause (log_full v) LogFull (change_refusal m g conn x.name x.mark pages x.working))
    (Proposes (flying v s x.name (change_of v x.name pages) (page_count x.working) Committing) (change_of v x.name pages) Nothing)

abbrev pub commit_in : View → Machine → Gateway → ℕ → Session → Option Transaction → Turned
commit_in v m g conn s None = Refused NoTransaction
commit_in v m g conn s (Some x) = committed v m g conn s x

-- ---- barrier reads

-- a query waits for a barrier: outside a transaction, if the connection asks for it
abbrev pub waits_first : Session → Bool
waits_first s = s.barriers && is_none s.tx

-- the barrier is proposed
abbrev pub barrier_first : View → Session → Statement → Turned
barrier_first v s statement = if log_full v then Refused LogFull else Proposes (flying v s [] (Other ∷ []) 0 (Querying statement)) (Other ∷ []) Nothing

-- ---- queries that readers run

-- a query of the session's database, over the newest image
abbrev pub job_of : Machine → Session → Statement → Job
job_of m s statement = record { name = s.database; image = (m.base s.database).image; statement = statement }

-- the engine cut the query off, as it took too many steps
abbrev pub was_cut : Ending → Bool
was_cut Lacking = false
was_cut (TooLarge answer) = false
was_cut (Stopped fault) = is_cut fault
was_cut (Ended to answer) = false

-- outside a transaction a query that was interrupted is lent to a reader, if there are readers
abbrev pub read_outside : View → Machine → Gateway → ℕ → Session → Statement → Ending → Turned
read_outside v m g conn s statement end = if v.readers && was_cut end then Lends (with_later s (Some (Lent statement))) (job_of m s statement) else outside v m g conn s (statement ∷ []) true end

abbrev pub read_in : View → Machine → Gateway → ℕ → Session → Option Transaction → Statement → List Answer → Turned
read_in v m g conn s None statement answers = read_outside v m g conn s statement (runs (m.base s.database).image no_answer (statement ∷ []) answers)
read_in v m g conn s (Some x) statement answers = run_in v m g conn s (Some x) (statement ∷ []) true answers

-- a statement whose rows are reported
abbrev pub reads : View → Machine → Gateway → ℕ → Session → Statement → List Answer → Turned
reads v m g conn s statement answers = if waits_first s then barrier_first v s statement else read_in v m g conn s s.tx statement answers

-- rows as they are sent, or why they can't be
abbrev pub rows_or : Option Cause → StatementResult → Reply
rows_or None answer = Rows answer
rows_or (Some cause) answer = Refusal cause

-- What a reader answers, by the engine's answer to its job; nothing if that lacks, and if the query would change pages: then
-- it goes back to the node.
unfoldable pub job_reply : Job → Ending → Option Reply
job_reply job Lacking = None
job_reply job (TooLarge answer) = None
job_reply job (Stopped fault) = Some (Refusal (engine_cause fault))
job_reply job (Ended to answer) = if no_pages (changed job.image to) then Some (rows_or (rows_cause (parts_of answer.columns answer.rows)) answer) else None

-- ---- requests

-- a new database is proposed, if it has room
abbrev pub creates : View → Machine → Gateway → Session → List ℕ → Turned
creates v m g s name =
    if pages_full m g name empty_image then Refused DatabaseFull
    else Proposes (flying v s name (Does (OpenDb name) ∷ []) 0 Opening) (Does (OpenDb name) ∷ []) Nothing

-- a transaction begins; at once with the write lock, or without it
abbrev pub begins : Machine → Gateway → ℕ → Session → Bool → Turned
begins m g conn s at_once = if at_once && other_holds g conn s.database then Refused Locked else Answers (begun m s at_once) (result 0) Began

-- What comes of what is asked, with the refusals that come at or after the engine.
unfoldable pub does : View → Machine → Gateway → ℕ → Session → Asked → List Answer → Turned
does v m g conn s (Never cause) answers = Refused cause
does v m g conn s (Tells response) answers = Answers s (Single response) Nothing
does v m g conn s (Sets effect) answers = Affects effect
does v m g conn s (Opens name barriers) answers = Answers (with_barriers (with_database s name) barriers) db Nothing
does v m g conn s (Creates name barriers) answers = creates v m g (with_barriers s barriers) name
does v m g conn s (Prepares p tail) answers = Answers (with_statements s (with_prepared p s.statements)) (Single (responses.Stmt 0 (free_id s.statements) p.params tail)) Nothing
does v m g conn s (Drops id) answers = Answers (with_statements s (without_prepared id s.statements)) empty Nothing
does v m g conn s (Forgets response) answers = Answers (with_lost s false) (Single response) Nothing
does v m g conn s (Begins at_once) answers = begins m g conn s at_once
does v m g conn s Commits answers = commit_in v m g conn s s.tx
does v m g conn s RollsBack answers = Answers (with_tx s None) (result 0) Nothing
does v m g conn s (Changes servers short) answers = if log_full v then Refused LogFull else Proposes (flying v s [] (Configures servers ∷ []) 0 (Configuring short)) (Configures servers ∷ []) Nothing
does v m g conn s (Runs ss) answers = run_in v m g conn s s.tx ss false answers
does v m g conn s (Reads statement) answers = reads v m g conn s statement answers

-- A request at a session that is there, is not hung up and has no pending proposal.
unfoldable pub on_request : View → Machine → Gateway → ℕ → Request → List Answer → Turned
on_request v m g conn request answers = does v m g conn (g.session conn) (asked v m g conn request) answers

-- ---- what a request hands to the engine

abbrev pub handed_over : Image → List Statement → Option Handed
handed_over image ss = Some (record { image = image; statements = ss })

abbrev pub handed_for : Machine → Session → Asked → Option Handed
handed_for m s (Runs ss) = handed_over (ground m s s.tx) ss
handed_for m s (Reads statement) = if waits_first s then None else handed_over (ground m s s.tx) (statement ∷ [])
handed_for m s asked = None

-- the statements that it asks for, be they handed over now or later
abbrev pub statements_asked : Asked → List Statement
statements_asked (Runs ss) = ss
statements_asked (Reads statement) = statement ∷ []
statements_asked asked = []

-- The image and the statements that a request hands to the engine, which runs those that it comes to.
unfoldable pub handed : View → Machine → Gateway → ℕ → Request → Option Handed
handed v m g conn request = handed_for m (g.session conn) (asked v m g conn request)

-- ---- a query that was yet to be answered

-- What comes of it if the node runs it after all, at its session without it: as if it was asked now, but with no barrier and
-- no reader any more.
unfoldable pub on_later : View → Machine → Gateway → ℕ → Statement → List Answer → Turned
on_later v m g conn statement answers = if v.serving then run_in v m g conn (g.session conn) (g.session conn).tx (statement ∷ []) true answers else Refused NotLeader

-- what it hands to the engine
unfoldable pub handed_later : View → Machine → Gateway → ℕ → Statement → Option Handed
handed_later v m g conn statement = if v.serving then handed_over (ground m (g.session conn) (g.session conn).tx) (statement ∷ []) else None

-- ---- the gateway after it

-- the gateway with another session of a connection
unfoldable pub with_session : Gateway → ℕ → Session → Gateway
with_session g conn s = record { conns = g.conns; session = λ other. if other == conn then s else g.session other; weight = g.weight }

-- the gateway where no query of the connection waits for its answer: it is run now, or a reader has given its reply
abbrev pub without_later : Gateway → ℕ → Gateway
without_later g conn = with_session g conn (with_later (g.session conn) None)

-- the gateway after an effect outside the sessions
abbrev pub affected_by : Gateway → Effect → Gateway
affected_by g (HandsOver id) = g
affected_by g (JoinsPeer id) = g
affected_by g (Weighs weight) = record { conns = g.conns; session = g.session; weight = weight }
