-- The image that statements run over, and the database of a session.
use Rattle.std.proofs.Common.{◌≡◌, ℕ, ◌<◌, Bool, true, false, List, length, Option, Some, None, option_map, IsSome, refl, ap, arith}
use Rattle.std.specs.Prelude.{nat_lt}
use Rattle.std.proofs.lemmas.Bool.{leb-false}
use Rattle.sql_engine.specs.Replies.{Statement}
use Rattle.database_state.specs.declared.database.Database.{Database}
use Rattle.session_spec.specs.Engines.{Answer, no_answer, runs}
use Rattle.session_spec.specs.Limits.{log_full}
use Rattle.session_spec.specs.Machine.{Machine, machine_of}
use Rattle.session_spec.specs.Sessions.{Session as RuleSession, Transaction as RuleTransaction, Gateway, View}
use Rattle.session_spec.specs.Requests.{ground, run_in}
use Rattle.session_table.specs.declared.session.Session.{Session}
use Rattle.session_table.specs.declared.session.Transaction.{Transaction}
use Rattle.session_table.specs.Table.{database_of, transaction_of, session_of}
use Rattle.session_outcomes.specs.Runs.{ran_in}

pub ground_inside : (databases : List Database) (session : Session) (x : Transaction) → session.transaction ≡ Some x → ground (machine_of databases) (session_of databases session) (session_of databases session).tx ≡ x.working
ground_inside databases session x is = ap (λ (tx : Option Transaction). ground (machine_of databases) (session_of databases session) (option_map (transaction_of databases) tx)) is

pub ground_outside : (databases : List Database) (session : Session) → session.transaction ≡ None → ground (machine_of databases) (session_of databases session) (session_of databases session).tx ≡ ((machine_of databases).base (database_of session.database)).image
ground_outside databases session is = ap (λ (tx : Option Transaction). ground (machine_of databases) (session_of databases session) (option_map (transaction_of databases) tx)) is

pub tx_inside : (databases : List Database) (session : Session) (x : Transaction) → session.transaction ≡ Some x → (session_of databases session).tx ≡ Some (transaction_of databases x)
tx_inside databases session x is = ap (option_map (transaction_of databases)) is

pub tx_outside : (databases : List Database) (session : Session) → session.transaction ≡ None → (session_of databases session).tx ≡ None
tx_outside databases session is = ap (option_map (transaction_of databases)) is

pub has_opened : (database : Option (List ℕ)) → nat_lt 0 (length (database_of database)) ≡ true → IsSome database
has_opened None e = absurd cc
has_opened (Some name) e = refl

pub not_full : (v : View) → log_full v ≡ false → v.last < 4294967295
not_full v e = let below : v.last < 4294900000 = leb-false 4294900000 v.last e in omega arith

pub run_is : (v : View) (m : Machine) (g : Gateway) (conn : ℕ) (s : RuleSession) (tx : Option RuleTransaction) (ss : List Statement) (rows : Bool) (answers : List Answer) → run_in v m g conn s tx ss rows answers ≡ ran_in v m g conn s tx ss rows (runs (ground m s tx) no_answer ss answers)
run_is v m g conn s None ss rows answers = refl
run_is v m g conn s (Some x) ss rows answers = refl
