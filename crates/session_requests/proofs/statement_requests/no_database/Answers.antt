use Rattle.std.proofs.Common.{sym, ◌∙◌}
use Rattle.std.specs.Prelude.{◌==◌}
use Rattle.session_spec.specs.Asking.{has_database}
use Rattle.session_table.specs.Table.{session_of}
use Rattle.session_requests.proofs.Refused.{named, unnamed}
use Rattle.session_requests.proofs.statement_requests.no_database.Goals as goal

pub returns-then-not-has_database : goal.returns-then-not-has_database
returns-then-not-has_database c = λ databases. unnamed (has_database (session_of databases c.args.session.now)) (c.args.db == 0) (sym (c.has_database.ensures databases) ∙ c.if-not-has_database.true)

pub returns : goal.returns
returns c = λ databases. named (has_database (session_of databases c.args.session.now)) (c.args.db == 0) (sym (c.has_database.ensures databases) ∙ c.if-not-has_database.false)
