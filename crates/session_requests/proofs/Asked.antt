-- What a request of one type wants is what the request wants.
use Rattle.std.proofs.Common.{◌≡◌, ℕ, Bool, List, Option, Result, sym, subst}
use Rattle.std.specs.Prelude.{IfOk}
use Rattle.wire_words.specs.declared.value.Value.{Value}
use Rattle.wire_msgs.specs.declared.request.Request.{Request}
use Rattle.wire_msgs.specs.declared.request.Request.TheVariants as requests
use Rattle.sql_scan.specs.Statements.{scan_of}
use Rattle.session_spec.specs.Asking.{Asked, asked_unless_lost, at_leader, in_database, asks_exec, asks_prepared_query, asks_text, asks_rows}
use Rattle.session_spec.specs.Causes.{Cause}
use Rattle.session_spec.specs.Limits.{write_hindrance}
use Rattle.session_spec.specs.Machine.{Machine}
use Rattle.session_spec.specs.Sessions.{Session, Gateway, View, in_tx}
use Rattle.session_spec.specs.Statements.{prepared_at}
use Rattle.session_requests.specs.declared.wanted.RequestPlan.{RequestPlan}
use Rattle.session_requests.specs.Meant.{meant, params_of}

module _ (v : View) (m : Machine) (g : Gateway) (conn : ℕ) (s : Session) (r kind : Request) (is : r ≡ kind) where
  pub of_request : (w : RequestPlan) → meant (params_of kind) w ≡ asked_unless_lost v m g conn s kind → meant (params_of r) w ≡ asked_unless_lost v m g conn s r
  of_request w e = subst (λ (q : Request). meant (params_of q) w ≡ asked_unless_lost v m g conn s q) (sym is) e

  pub of_result : {E : Type 0} (result : Result RequestPlan E) → IfOk result (λ (w : RequestPlan). meant (params_of kind) w ≡ asked_unless_lost v m g conn s kind)
      → IfOk result (λ (w : RequestPlan). meant (params_of r) w ≡ asked_unless_lost v m g conn s r)
  of_result {E} result e = subst (λ (q : Request). IfOk result (λ (w : RequestPlan). meant (params_of q) w ≡ asked_unless_lost v m g conn s q)) (sym is) e

-- this is wanted, with these parameters
abbrev pub Wants : {E : Type 0} → Result RequestPlan E → List Value → Asked → Type 0
Wants result params asked = IfOk result (λ (w : RequestPlan). meant params w ≡ asked)

-- Of requests with a statement: what is wanted by the parameters, the text and the hindrance that code has of them.
module _ (v : View) (m : Machine) (g : Gateway) (conn : ℕ) (s : Session) (r : Request) where
  pub exec_wants : {E : Type 0} (db id : ℕ) (params : List Value) (wide : Bool) → r ≡ requests.Exec db id params wide
      → (known : List Value) (hinders : Option Cause) (result : Result RequestPlan E) → known ≡ params → hinders ≡ write_hindrance m g conn s
      → Wants result known (at_leader v (in_database s db (asks_exec hinders (in_tx s) (prepared_at s.statements id) known)))
      → Wants result (params_of r) (asked_unless_lost v m g conn s r)
  unfolding asked_unless_lost
  exec_wants {E} db id params wide is known hinders result same hindered wants =
      of_result v m g conn s r (requests.Exec db id params wide) is result
      (subst (λ (ps : List Value). Wants result ps (at_leader v (in_database s db (asks_exec (write_hindrance m g conn s) (in_tx s)
      (prepared_at s.statements id) ps)))) same
      (subst (λ (h : Option Cause). Wants result known (at_leader v (in_database s db (asks_exec h (in_tx s) (prepared_at s.statements id) known)))) hindered wants))

  pub query_wants : {E : Type 0} (db id : ℕ) (params : List Value) (wide : Bool) → r ≡ requests.Query db id params wide
      → (known : List Value) (hinders : Option Cause) (result : Result RequestPlan E) → known ≡ params → hinders ≡ write_hindrance m g conn s
      → Wants result known (at_leader v (in_database s db (asks_prepared_query hinders (prepared_at s.statements id) known)))
      → Wants result (params_of r) (asked_unless_lost v m g conn s r)
  unfolding asked_unless_lost
  query_wants {E} db id params wide is known hinders result same hindered wants =
      of_result v m g conn s r (requests.Query db id params wide) is result
      (subst (λ (ps : List Value). Wants result ps (at_leader v (in_database s db (asks_prepared_query (write_hindrance m g conn s)
      (prepared_at s.statements id) ps)))) same
      (subst (λ (h : Option Cause). Wants result known (at_leader v (in_database s db (asks_prepared_query h (prepared_at s.statements id) known)))) hindered wants))

  pub exec_text_wants : {E : Type 0} (db : ℕ) (sql : List ℕ) (params : List Value) (wide : Bool) → r ≡ requests.ExecSql db sql params wide
      → (known : List Value) (text : List ℕ) (hinders : Option Cause) (result : Result RequestPlan E)
      → known ≡ params → text ≡ sql → hinders ≡ write_hindrance m g conn s
      → Wants result known (at_leader v (in_database s db (asks_text hinders (in_tx s) text (scan_of text) known)))
      → Wants result (params_of r) (asked_unless_lost v m g conn s r)
  unfolding asked_unless_lost
  exec_text_wants {E} db sql params wide is known text hinders result same read hindered wants =
      of_result v m g conn s r (requests.ExecSql db sql params wide) is result
      (subst (λ (ps : List Value). Wants result ps (at_leader v (in_database s db (asks_text (write_hindrance m g conn s) (in_tx s) sql (scan_of sql) ps)))) same
      (subst (λ (t : List ℕ). Wants result known (at_leader v (in_database s db (asks_text (write_hindrance m g conn s) (in_tx s) t (scan_of t) known)))) read
      (subst (λ (h : Option Cause). Wants result known (at_leader v (in_database s db (asks_text h (in_tx s) text (scan_of text) known)))) hindered wants)))

  pub query_text_wants : {E : Type 0} (db : ℕ) (sql : List ℕ) (params : List Value) (wide : Bool) → r ≡ requests.QuerySql db sql params wide
      → (known : List Value) (text : List ℕ) (hinders : Option Cause) (result : Result RequestPlan E)
      → known ≡ params → text ≡ sql → hinders ≡ write_hindrance m g conn s
      → Wants result known (at_leader v (in_database s db (asks_rows hinders text (scan_of text) known)))
      → Wants result (params_of r) (asked_unless_lost v m g conn s r)
  unfolding asked_unless_lost
  query_text_wants {E} db sql params wide is known text hinders result same read hindered wants =
      of_result v m g conn s r (requests.QuerySql db sql params wide) is result
      (subst (λ (ps : List Value). Wants result ps (at_leader v (in_database s db (asks_rows (write_hindrance m g conn s) sql (scan_of sql) ps)))) same
      (subst (λ (t : List ℕ). Wants result known (at_leader v (in_database s db (asks_rows (write_hindrance m g conn s) t (scan_of t) known)))) read
      (subst (λ (h : Option Cause). Wants result known (at_leader v (in_database s db (asks_rows h text (scan_of text) known)))) hindered wants)))
