-- What clients know in small histories, and what their messages ask for.
use Rattle.std.proofs.Common.{◌≡◌, ℕ, Bool, true, false, List, [], ◌∷◌, sym, ap, ◌∙◌, subst}
use Rattle.std.specs.Prelude.{Option, Some, None, codes, not, ◌&&◌, ◌||◌}
use Rattle.wire_msgs.specs.declared.request.Request.{Request}
use Rattle.wire_msgs.specs.declared.request.Request.TheVariants.{Open, ExecSql, QuerySql, Dump}
use Rattle.wire_msgs.specs.declared.response.Response.{Response}
use Rattle.wire_msgs.specs.declared.response.Response.TheVariants as responses
use Rattle.sql_scan.specs.declared.pieces.StatementSpan.{StatementSpan}
use Rattle.sql_scan.specs.declared.heading.WordKind.{WordKind}
use Rattle.sql_scan.specs.declared.heading.WordKind.TheVariants as words
use Rattle.session_spec.specs.Statements.{prepared_from, any_barred, wrong_params}
use Rattle.session_spec.specs.Asking.{barriers_asked, is_name}
use Rattle.headline.specs.Clients.{Client, Transaction, Idle, Begun, Lost, Opens, Begins, Runs, Dumps, is_idle, unless, kind_purpose, text_purpose, query_text_purpose, has_database, in_database, unless_lost, purpose}
use Rattle.headline.specs.Laws.{statement, IsSole}
use Rattle.headline.proofs.Stays.{NoCommit}

abbrev pub open_request : ℕ → Option Request
open_request flags = Some (Open (codes "d") flags (codes "v"))

abbrev pub exec : List ℕ → Option Request
exec sql = Some (ExecSql 0 sql [] false)

abbrev pub query : List ℕ → Option Request
query sql = Some (QuerySql 0 sql [] false)

abbrev pub db : List Response
db = responses.Db 0 ∷ []

abbrev pub result : ℕ → List Response
result count = responses.Result 0 count ∷ []

-- a client of the database with a transaction
abbrev pub knows : Bool → Transaction → Client
knows barriers transaction = record { name = codes "d"; barriers = barriers; prepared = λ id. None; transaction = transaction }

pub exec_is : (s : Client) (sql : List ℕ) (span : StatementSpan) (word : WordKind) → IsSole sql span word →
    purpose s (exec sql) ≡ unless_lost s.transaction (in_database s 0 (kind_purpose (is_idle s.transaction) word (statement sql span)))
exec_is s sql span word sole =
    ap (λ r. unless_lost s.transaction (in_database s 0 (text_purpose s sql r []))) sole.scans
    ∙ ap (λ n. unless_lost s.transaction
    (in_database s 0 (unless (wrong_params (record { text = (prepared_from sql span).text; word = span.word; params = n } ∷ []) [])
    (kind_purpose (is_idle s.transaction) span.word (statement sql span))))) sole.params
    ∙ ap (λ w. unless_lost s.transaction (in_database s 0 (kind_purpose (is_idle s.transaction) w (statement sql span)))) sole.first

pub query_is : (s : Client) (sql : List ℕ) (span : StatementSpan) → IsSole sql span words.Other →
    purpose s (query sql) ≡ unless_lost s.transaction (in_database s 0 (Runs true (statement sql span ∷ [])))
query_is s sql span sole =
    ap (λ r. unless_lost s.transaction (in_database s 0 (query_text_purpose sql r []))) sole.scans
    ∙ ap (λ n. unless_lost s.transaction (in_database s 0 (unless
    (any_barred (record { text = (prepared_from sql span).text; word = span.word; params = n } ∷ []) || wrong_params
    (record { text = (prepared_from sql span).text; word = span.word; params = n } ∷ []) [])
    (Runs true (statement sql span ∷ []))))) sole.params
    ∙ ap (λ w. unless_lost s.transaction (in_database s 0 (unless
    (any_barred (record { text = (prepared_from sql span).text; word = w; params = 0 } ∷ []) || wrong_params
    (record { text = (prepared_from sql span).text; word = w; params = 0 } ∷ []) [])
    (Runs true (statement sql span ∷ []))))) sole.first

-- ---- none of these is a COMMIT

runs_none : (t : Transaction) (b rows : Bool) (statement : _) → NoCommit (unless_lost t (unless b (Runs rows statement)))
runs_none Idle true rows ss = tt
runs_none Idle false rows ss = tt
runs_none (Begun begin last) true rows ss = tt
runs_none (Begun begin last) false rows ss = tt
runs_none Lost true rows ss = tt
runs_none Lost false rows ss = tt

opens_none : (t : Transaction) (b : Bool) (name : List ℕ) (barriers : Bool) → NoCommit (unless_lost t (unless b (Opens name barriers)))
opens_none Idle true name barriers = tt
opens_none Idle false name barriers = tt
opens_none (Begun begin last) true name barriers = tt
opens_none (Begun begin last) false name barriers = tt
opens_none Lost true name barriers = tt
opens_none Lost false name barriers = tt

begins_none : (t : Transaction) (b c : Bool) → NoCommit (unless_lost t (unless b (unless c Begins)))
begins_none Idle true c = tt
begins_none Idle false true = tt
begins_none Idle false false = tt
begins_none (Begun begin last) true c = tt
begins_none (Begun begin last) false true = tt
begins_none (Begun begin last) false false = tt
begins_none Lost true c = tt
begins_none Lost false true = tt
begins_none Lost false false = tt

pub open_none : (s : Client) (flags : ℕ) → NoCommit (purpose s (open_request flags))
open_none s flags = opens_none s.transaction (has_database s || not (is_name (codes "d"))) (codes "d") (barriers_asked flags)

pub write_none : (s : Client) (sql : List ℕ) (span : StatementSpan) → IsSole sql span words.Write → NoCommit (purpose s (exec sql))
write_none s sql span sole = subst NoCommit (sym (exec_is s sql span words.Write sole))
    (runs_none s.transaction (not (has_database s && true)) false (statement sql span ∷ []))

pub begin_none : (s : Client) (sql : List ℕ) (span : StatementSpan) (at_once : Bool) → IsSole sql span (words.Begin at_once) → NoCommit (purpose s (exec sql))
begin_none s sql span at_once sole =
    subst NoCommit (sym (exec_is s sql span (words.Begin at_once) sole)) (begins_none s.transaction (not (has_database s && true))
    (not (is_idle s.transaction)))

pub query_none : (s : Client) (sql : List ℕ) (span : StatementSpan) → IsSole sql span words.Other → NoCommit (purpose s (query sql))
query_none s sql span sole = subst NoCommit (sym (query_is s sql span sole)) (runs_none s.transaction (not (has_database s && true)) true
    (statement sql span ∷ []))

dumps_none : (t : Transaction) (name : List ℕ) → NoCommit (unless_lost t (Dumps name))
dumps_none Idle name = tt
dumps_none (Begun begin last) name = tt
dumps_none Lost name = tt

pub dump_none : (s : Client) → NoCommit (purpose s (Some (Dump (codes "d"))))
dump_none s = dumps_none s.transaction (codes "d")
