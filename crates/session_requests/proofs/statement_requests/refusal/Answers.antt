use Rattle.std.proofs.Common.{sym, ◌∙◌}
use Rattle.std.proofs.lemmas.Bool.{cond-true, cond-false}
use Rattle.session_spec.specs.Causes.{NoDatabase}
use Rattle.session_spec.specs.Asking.{Never, no_database}
use Rattle.session_table.specs.Table.{session_of}
use Rattle.session_requests.proofs.statement_requests.refusal.Goals as goal

pub returns-then-no_database : goal.returns-then-no_database
returns-then-no_database c = λ databases asked. cond-true (no_database (session_of databases c.args.session.now) c.args.db) (Never NoDatabase) asked (sym (c.no_database.ensures databases) ∙ c.if-no_database.true)

pub returns-else-no_database : goal.returns-else-no_database
returns-else-no_database c = λ databases asked. cond-false (no_database (session_of databases c.args.session.now) c.args.db) (Never NoDatabase) asked (sym (c.no_database.ensures databases) ∙ c.if-no_database.false)
