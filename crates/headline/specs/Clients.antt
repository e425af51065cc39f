-- What a client knows of its connection, from its messages and their answers; and what a message asks for.
use Rattle.std.specs.Prelude.{ℕ, Bool, true, false, not, ◌&&◌, ◌||◌, is_none, ◌==◌, nat_lt, List, [], ◌∷◌, length, map, Option, Some, None, Result, Ok, Err, if◌then◌else◌}
use Rattle.wire_words.specs.declared.value.Value.{Value}
use Rattle.wire_msgs.specs.declared.request.Request.{Request}
use Rattle.wire_msgs.specs.declared.request.Request.TheVariants as requests
use Rattle.wire_msgs.specs.declared.response.Response.{Response}
use Rattle.wire_msgs.specs.declared.response.Response.TheVariants as responses
use Rattle.sql_scan.specs.declared.pieces.StatementSpan.{StatementSpan}
use Rattle.sql_scan.specs.declared.fault.ScanFault.{ScanFault}
use Rattle.sql_scan.specs.declared.heading.WordKind.{WordKind}
use Rattle.sql_scan.specs.declared.heading.WordKind.TheVariants as words
use Rattle.sql_scan.specs.Statements.{scan_of}
use Rattle.sql_engine.specs.Replies.{Statement}
use Rattle.session_spec.specs.Sessions.{Prepared}
use Rattle.session_spec.specs.Statements.{prepared_from, with_params, with_all, any_barred, is_left_out, wrong_params}
use Rattle.session_spec.specs.Asking.{barriers_asked, is_name, tail_of}

-- ---- refusals

-- the code of a refusal
abbrev pub code_of : Response → Option ℕ
code_of (responses.Failure code message) = Some code
code_of _ = None

-- the code of an answer that is a refusal
abbrev pub refused : List Response → Option ℕ
refused [] = None
refused (r ∷ []) = code_of r
refused (r ∷ s ∷ rs) = None

-- 10250 and 10506 report that the node lost its leadership
abbrev pub is_loss : ℕ → Bool
is_loss code = (code == 10250) || (code == 10506)

-- ---- what a client knows

-- The transaction of a connection. None is open; or one is open, with the place of its BEGIN and the place of the last message whose statements ran in it (at
-- first the BEGIN); or one was lost with the leadership of the node, and neither COMMIT nor ROLLBACK has ended it.
pub data Transaction : Type 0 where
  Idle : Transaction
  Begun : (begin last : ℕ) → Transaction
  Lost : Transaction

-- What a client knows of its connection: the database, whether its queries wait for a barrier, the prepared statement of each number, and the transaction.
pub record Client : Type 0 where
  pub name : List ℕ
  pub barriers : Bool
  pub prepared : ℕ → Option Prepared
  pub transaction : Transaction

abbrev pub new_client : Client
new_client = record { name = []; barriers = false; prepared = λ id. None; transaction = Idle }

abbrev pub is_idle : Transaction → Bool
is_idle Idle = true
is_idle (Begun begin last) = false
is_idle Lost = false

-- ---- what a message asks for

-- What a message asks for: something impossible, which is always refused; to open a database; to begin or end a transaction; to run statements, and to send
-- rows or not; to prepare a statement, and to send the place of the rest of its text or not; to drop a prepared statement; the files of a database; something
-- that is answered by EMPTY; or anything else, which is not about a database.
pub data Purpose : Type 0 where
  Never : Purpose
  Opens : (name : List ℕ) (barriers : Bool) → Purpose
  Begins Commits RollsBack : Purpose
  Runs : (rows : Bool) (statements : List Statement) → Purpose
  Prepares : (prepared : Prepared) (tail : Option ℕ) → Purpose
  Drops : (id : ℕ) → Purpose
  Dumps : (name : List ℕ) → Purpose
  Empties : Purpose
  Other : Purpose

-- never, if the condition is met
abbrev pub unless : Bool → Purpose → Purpose
unless true p = Never
unless false p = p

-- BEGIN, COMMIT, ROLLBACK or another statement, by its first word
abbrev pub kind_purpose : Bool → WordKind → Statement → Purpose
kind_purpose idle (words.Begin at_once) s = unless (not idle) Begins
kind_purpose idle words.Commit s = unless idle Commits
kind_purpose idle words.Rollback s = unless idle RollsBack
kind_purpose idle words.Write s = Runs false (s ∷ [])
kind_purpose idle words.LeftOut s = Never
kind_purpose idle words.Other s = Runs false (s ∷ [])

abbrev pub sole_purpose : Client → Prepared → List Value → Purpose
sole_purpose s p params = unless (wrong_params (p ∷ []) params) (kind_purpose (is_idle s.transaction) p.word (with_all p params))

-- several statements run together or not at all
abbrev pub list_purpose : Client → List Prepared → List Value → Purpose
list_purpose s (p ∷ []) params = sole_purpose s p params
list_purpose s ps params = unless (any_barred ps || wrong_params ps params) (Runs false (with_params ps params))

abbrev pub text_purpose : Client → List ℕ → Result (List StatementSpan) ScanFault → List Value → Purpose
text_purpose s sql (Err fault) params = Never
text_purpose s sql (Ok spans) params = list_purpose s (map (prepared_from sql) spans) params

-- a query is one statement whose rows are sent
abbrev pub query_purpose : Prepared → List Value → Purpose
query_purpose p params = unless (any_barred (p ∷ []) || wrong_params (p ∷ []) params) (Runs true (with_all p params ∷ []))

abbrev pub query_text_purpose : List ℕ → Result (List StatementSpan) ScanFault → List Value → Purpose
query_text_purpose sql (Ok (p ∷ [])) params = query_purpose (prepared_from sql p) params
query_text_purpose sql scanned params = Never

abbrev pub prepared_purpose : Client → Bool → Option Prepared → List Value → Purpose
prepared_purpose s rows None params = Never
prepared_purpose s true (Some p) params = query_purpose p params
prepared_purpose s false (Some p) params = sole_purpose s p params

-- the first statement of a text is prepared; only schema 1 allows several
abbrev pub prepare_purpose : List ℕ → Bool → Result (List StatementSpan) ScanFault → Purpose
prepare_purpose sql wide (Ok (p ∷ [])) = unless (is_left_out p.word) (Prepares (prepared_from sql p) (tail_of wide p))
prepare_purpose sql wide (Ok (p ∷ q ∷ ps)) = unless (not wide || any_barred (map (prepared_from sql) (p ∷ q ∷ ps)))
    (Prepares (prepared_from sql p) (tail_of wide p))
prepare_purpose sql wide scanned = Never

abbrev pub has_database : Client → Bool
has_database s = nat_lt 0 (length s.name)

-- a connection has one database, whose number is 0
abbrev pub in_database : Client → ℕ → Purpose → Purpose
in_database s db p = unless (not (has_database s && (db == 0))) p

-- after a loss statements are refused until COMMIT or ROLLBACK
abbrev pub unless_lost : Transaction → Purpose → Purpose
unless_lost Lost (Runs rows statements) = Never
unless_lost Lost (Prepares prepared tail) = Never
unless_lost transaction p = p

abbrev pub request_purpose : Client → Request → Purpose
request_purpose s (requests.Open name flags vfs) = unless (has_database s || not (is_name name)) (Opens name (barriers_asked flags))
request_purpose s (requests.Prepare db sql wide) = in_database s db (prepare_purpose sql wide (scan_of sql))
request_purpose s (requests.ExecSql db sql params wide) = in_database s db (text_purpose s sql (scan_of sql) params)
request_purpose s (requests.QuerySql db sql params wide) = in_database s db (query_text_purpose sql (scan_of sql) params)
request_purpose s (requests.Exec db id params wide) = in_database s db (prepared_purpose s false (s.prepared id) params)
request_purpose s (requests.Query db id params wide) = in_database s db (prepared_purpose s true (s.prepared id) params)
request_purpose s (requests.Finalize db id) = in_database s db (unless (is_none (s.prepared id)) (Drops id))
request_purpose s (requests.Interrupt db) = in_database s db Empties
request_purpose s (requests.Dump name) = Dumps name
request_purpose s (requests.Connect id address) = Empties
request_purpose s (requests.Add id address) = Empties
request_purpose s (requests.Assign id role) = Empties
request_purpose s (requests.Remove id) = Empties
request_purpose s (requests.Transfer id) = Empties
request_purpose s (requests.Weight weight) = Empties
request_purpose s _ = Other

-- a message that does not read as a request is refused
abbrev pub purpose : Client → Option Request → Purpose
purpose s None = Never
purpose s (Some request) = unless_lost s.transaction (request_purpose s request)

-- ---- what a client knows after an answer

-- the number of a prepared statement is the one that STMT reports
abbrev pub with_prepared : Prepared → List Response → (ℕ → Option Prepared) → ℕ → Option Prepared
with_prepared p (responses.Stmt db id params tail ∷ []) prepared = λ other. if other == id then Some p else prepared other
with_prepared p answer prepared = prepared

-- statements of the message at this place ran
abbrev pub ran_at : ℕ → Transaction → Transaction
ran_at place Idle = Idle
ran_at place (Begun begin last) = Begun begin place
ran_at place Lost = Lost

-- after an answer that is no refusal
abbrev pub after_result : Client → ℕ → List Response → Purpose → Client
after_result s place answer (Opens name barriers) = record s { name = name; barriers = barriers }
after_result s place answer Begins = record s { transaction = Begun place place }
after_result s place answer Commits = record s { transaction = Idle }
after_result s place answer RollsBack = record s { transaction = Idle }
after_result s place answer (Runs rows statements) = record s { transaction = ran_at place s.transaction }
after_result s place answer (Prepares p tail) = record s { prepared = with_prepared p answer s.prepared }
after_result s place answer (Drops id) = record s { prepared = λ other. if other == id then None else s.prepared other }
after_result s place answer _ = s

-- An open transaction is lost with the leadership of its node. A COMMIT ends it also if that is how it is answered.
abbrev pub after_loss : Purpose → Transaction → Transaction
after_loss Commits transaction = Idle
after_loss p Idle = Idle
after_loss p (Begun begin last) = Lost
after_loss p Lost = Lost

-- any other refusal changes nothing
abbrev pub after_refusal : Bool → Client → Purpose → Client
after_refusal true s p = record s { transaction = after_loss p s.transaction }
after_refusal false s p = s

abbrev pub after_answer : Client → ℕ → Option Request → List Response → Option ℕ → Client
after_answer s place request answer (Some code) = after_refusal (is_loss code) s (purpose s request)
after_answer s place request answer None = after_result s place answer (purpose s request)

-- after these messages, each with its place, and their answers
abbrev pub client_after : Client → List (ℕ × Option Request) → List (List Response) → Client
client_after s [] answers = s
client_after s (x ∷ asked) [] = s
client_after s (x ∷ asked) (answer ∷ answers) = client_after (after_answer s x.0 x.1 answer (refused answer)) asked answers

-- ---- which image an answer is about

-- An answer to it rests on an image.
abbrev pub has_image : Purpose → Bool
has_image Begins = true
has_image Commits = true
has_image (Runs rows statements) = true
has_image (Opens name barriers) = true
has_image (Dumps name) = true
has_image _ = false

-- An answer to it rests on what its node has applied by then, and not on the image of a transaction.
abbrev pub is_newest : Client → Purpose → Bool
is_newest s (Runs rows statements) = is_idle s.transaction
is_newest s Begins = true
is_newest s (Opens name barriers) = true
is_newest s (Dumps name) = true
is_newest s _ = false

-- Any node answers DUMP; only a serving leader answers the others.
abbrev pub is_led : Purpose → Bool
is_led (Dumps name) = false
is_led _ = true

-- A query outside a transaction waits for a barrier, if OPEN asked for this.
abbrev pub waits_first : Client → Purpose → Bool
waits_first s (Runs true statements) = s.barriers && is_idle s.transaction
waits_first s _ = false
