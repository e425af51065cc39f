-- What a request asks for, whether the transaction of its session is lost or not.
use Rattle.std.proofs.Common.{◌≡◌, inl, inr, ℕ, Bool, true, false, List, [], ◌∷◌, map, Option, Some, None, Result, Ok, Err, refl}
use Rattle.std.proofs.lemmas.Bool.{cond_both}
use Rattle.wire_words.specs.declared.value.Value.{Value}
use Rattle.wire_msgs.specs.declared.request.Request.{Request}
use Rattle.wire_msgs.specs.declared.request.Request.TheVariants as requests
use Rattle.wire_msgs.specs.declared.response.Response.{Response}
use Rattle.wire_msgs.specs.declared.response.Response.TheVariants as responses
use Rattle.sql_scan.specs.declared.pieces.StatementSpan.{StatementSpan}
use Rattle.sql_scan.specs.declared.fault.ScanFault.{ScanFault}
use Rattle.sql_scan.specs.declared.heading.WordKind.{WordKind}
use Rattle.sql_scan.specs.declared.heading.WordKind.TheVariants as words
use Rattle.sql_scan.specs.Statements.{scan_of}
use Rattle.session_spec.specs.Causes.{NotLeader, failure}
use Rattle.session_spec.specs.Machine.{Machine}
use Rattle.session_spec.specs.Sessions.{Prepared, Session, Gateway, View}
use Rattle.session_spec.specs.Statements.{prepared_from, prepared_at, wrong_params}
use Rattle.session_spec.specs.Asking.{Asked, Never, Forgets, no_database, lost_word, lost_one, lost_statements, lost_text, lost_exec, lost_in, asks_lost, unless_lost, asked_unless_lost, asked_by}
use Rattle.session_spec.specs.Allowed.{EndsLost}

-- the fact of what is asked for, if anything is
abbrev pub OrNone : (Asked → Type 0) → Option Asked → Type 0
OrNone P None = Unit {0}
OrNone P (Some asked) = P asked

module _ (P : Asked → Type 0) (s : Session) (never : P (Never NotLeader)) (commits : P (Forgets (failure NotLeader))) (rolls : P (Forgets (responses.Result 0 0))) where
  word_so : (word : WordKind) → P (lost_word word)
  word_so (words.Begin at_once) = never
  word_so words.Commit = commits
  word_so words.Rollback = rolls
  word_so words.Write = never
  word_so words.LeftOut = never
  word_so words.Other = never

  one_so : (p : Prepared) (params : List Value) → P (lost_one p params)
  one_so p params = cond_both (wrong_params (p ∷ []) params) (Never NotLeader) (lost_word p.word) P (λ e. never) (λ e. word_so p.word)

  statements_so : (ps : List Prepared) (params : List Value) → P (lost_statements ps params)
  statements_so [] params = never
  statements_so (p ∷ []) params = one_so p params
  statements_so (p ∷ q ∷ ps) params = never

  text_so : (sql : List ℕ) (t : Result (List StatementSpan) ScanFault) (params : List Value) → P (lost_text sql t params)
  text_so sql (Err fault) params = never
  text_so sql (Ok pieces) params = statements_so (map (prepared_from sql) pieces) params

  exec_so : (o : Option Prepared) (params : List Value) → P (lost_exec o params)
  exec_so None params = never
  exec_so (Some p) params = one_so p params

  in_so : (db : ℕ) (asked : Asked) → P asked → P (lost_in s db asked)
  in_so db asked h = cond_both (no_database s db) (Never NotLeader) asked P (λ e. never) (λ e. h)

  pub lost_so : (r : Request) → OrNone P (asks_lost s r)
  lost_so requests.Leader = tt
  lost_so (requests.Client id) = tt
  lost_so (requests.Open name flags vfs) = tt
  lost_so (requests.Prepare db sql wide) = never
  lost_so (requests.Exec db id params wide) = in_so db (lost_exec (prepared_at s.statements id) params) (exec_so (prepared_at s.statements id) params)
  lost_so (requests.Query db id params wide) = never
  lost_so (requests.Finalize db id) = tt
  lost_so (requests.ExecSql db sql params wide) = in_so db (lost_text sql (scan_of sql) params) (text_so sql (scan_of sql) params)
  lost_so (requests.QuerySql db sql params wide) = never
  lost_so (requests.Interrupt db) = tt
  lost_so (requests.Connect id address) = tt
  lost_so (requests.Add id address) = tt
  lost_so (requests.Assign id role) = tt
  lost_so (requests.Remove id) = tt
  lost_so (requests.Dump name) = tt
  lost_so (requests.Cluster format) = tt
  lost_so (requests.Transfer id) = tt
  lost_so (requests.Describe format) = tt
  lost_so (requests.Weight weight) = tt

-- the fact of both is the fact of the choice
pub unless_so : (P : Asked → Type 0) (b : Bool) (o : Option Asked) (asked : Asked) → (b ≡ true → OrNone P o) → P asked → P (unless_lost b o asked)
unless_so P false o asked h a = a
unless_so P true None asked h a = a
unless_so P true (Some lost) asked h a = h refl

-- What holds of a refusal by `not leader`, of the end of a lost transaction, and of what is asked for without one, holds of what
-- is asked for.
pub asked_both : (P : Asked → Type 0) (v : View) (m : Machine) (g : Gateway) (conn : ℕ) (s : Session) (r : Request) → P (Never NotLeader)
    → ((response : Response) → EndsLost s response → P (Forgets response)) → P (asked_unless_lost v m g conn s r) → P (asked_by v m g conn s r)
unfolding asked_by
asked_both P v m g conn s r never ends otherwise =
    unless_so P s.lost (asks_lost s r) (asked_unless_lost v m g conn s r)
    (λ e. lost_so P s never (ends (failure NotLeader) (record { lost = e; told = inl refl })) (ends (responses.Result 0 0) (record { lost = e; told = inr refl })) r)
    otherwise
