-- What a request with a statement wants while the transaction of its session is lost.
use Rattle.std.proofs.Common.{◌≡◌, ℕ, Bool, true, false, List, Option, Some, None, refl, sym, ap, subst}
use Rattle.std.specs.Option.{option_map}
use Rattle.std.proofs.lemmas.Bool.{cond-true, cond-false}
use Rattle.wire_words.specs.declared.value.Value.{Value}
use Rattle.wire_msgs.specs.declared.request.Request.{Request}
use Rattle.wire_msgs.specs.declared.request.Request.TheVariants as requests
use Rattle.sql_scan.specs.Statements.{scan_of}
use Rattle.session_spec.specs.Asking.{Asked, Never, no_database, lost_text, lost_exec, lost_in, asks_lost, unless_lost}
use Rattle.session_spec.specs.Causes.{NotLeader}
use Rattle.session_spec.specs.Sessions.{Session}
use Rattle.session_spec.specs.Statements.{prepared_at}
use Rattle.session_requests.specs.declared.wanted.RequestPlan.{RequestPlan}
use Rattle.session_requests.specs.Meant.{meant, params_of, planned_or}

-- of another database it is refused
pub elsewhere : (s : Session) (db : ℕ) (asked : Asked) → no_database s db ≡ true → Never NotLeader ≡ lost_in s db asked
elsewhere s db asked e = sym (cond-true (no_database s db) (Never NotLeader) asked e)

pub at_home : (s : Session) (db : ℕ) (asked : Asked) → no_database s db ≡ false → asked ≡ lost_in s db asked
at_home s db asked e = sym (cond-false (no_database s db) (Never NotLeader) asked e)

module _ (s : Session) (r : Request) (known : List Value) (w : RequestPlan) where
  pub exec_lost : (db id : ℕ) (params : List Value) (wide : Bool) → r ≡ requests.Exec db id params wide → known ≡ params
      → meant known w ≡ lost_in s db (lost_exec (prepared_at s.statements id) known) → option_map (meant (params_of r)) (Some w) ≡ asks_lost s r
  exec_lost db id params wide is same wants =
      subst (λ (q : Request). option_map (meant (params_of q)) (Some w) ≡ asks_lost s q) (sym is)
      (ap (λ (a : Asked). Some a) (subst (λ (ps : List Value). meant ps w ≡ lost_in s db (lost_exec (prepared_at s.statements id) ps)) same wants))

  pub exec_text_lost : (db : ℕ) (sql : List ℕ) (params : List Value) (wide : Bool) → r ≡ requests.ExecSql db sql params wide → (text : List ℕ) → known ≡ params → text ≡ sql
      → meant known w ≡ lost_in s db (lost_text text (scan_of text) known) → option_map (meant (params_of r)) (Some w) ≡ asks_lost s r
  exec_text_lost db sql params wide is text same read wants =
      subst (λ (q : Request). option_map (meant (params_of q)) (Some w) ≡ asks_lost s q) (sym is)
      (ap (λ (a : Asked). Some a)
      (subst (λ (ps : List Value). meant ps w ≡ lost_in s db (lost_text sql (scan_of sql) ps)) same
      (subst (λ (t : List ℕ). meant known w ≡ lost_in s db (lost_text t (scan_of t) known)) read wants)))

-- what is planned at a session whose transaction is lost is what is asked for
pub planned : (params : List Value) (lost : Bool) (o : Option Asked) (w : Option RequestPlan) (asked : Asked) → lost ≡ true → option_map (meant params) w ≡ o
    → unless_lost lost o asked ≡ planned_or params w asked
planned params lost o w asked e same =
    subst (λ (b : Bool). unless_lost b o asked ≡ planned_or params w asked) (sym e)
    (subst (λ (p : Option Asked). unless_lost true p asked ≡ planned_or params w asked) same (by w))
  where
    by : (plan : Option RequestPlan) → unless_lost true (option_map (meant params) plan) asked ≡ planned_or params plan asked
    by None = refl
    by (Some x) = refl
