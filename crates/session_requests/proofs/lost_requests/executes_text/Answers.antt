use Rattle.std.proofs.Common.{sym, ◌∙◌}
use Rattle.std.proofs.lemmas.Result.{IfOk-weaker}
use Rattle.sql_scan.specs.Statements.{scan_of}
use Rattle.session_spec.specs.Asking.{lost_text}
use Rattle.session_table.specs.Table.{session_of}
use Rattle.session_requests.proofs.LostWants.{elsewhere, at_home}
use Rattle.session_requests.proofs.lost_requests.executes_text.Goals as goal

pub returns-then-no_database : goal.returns-then-no_database
returns-then-no_database c = λ databases.
    elsewhere (session_of databases c.args.session.now) c.args.db (lost_text c.args.sql.now (scan_of c.args.sql.now) c.args.params.now)
    (sym (c.no_database.ensures databases) ∙ c.if-no_database.true)

pub returns : goal.returns
returns c = λ databases.
    IfOk-weaker c.wanted_by_text.result _ _
    (λ w e. e ∙ at_home (session_of databases c.args.session.now) c.args.db (lost_text c.args.sql.now (scan_of c.args.sql.now) c.args.params.now)
    (sym (c.no_database.ensures databases) ∙ c.if-no_database.false))
    c.wanted_by_text.ensures
