use Rattle.std.proofs.Common.{Option, sym, ap, ◌∙◌}
use Rattle.std.proofs.lemmas.Result.{IfOk-weaker}
use Rattle.session_spec.specs.Asking.{lost_exec}
use Rattle.session_spec.specs.Sessions.{Prepared}
use Rattle.session_spec.specs.Statements.{prepared_at}
use Rattle.session_table.specs.Table.{session_of}
use Rattle.session_requests.proofs.LostWants.{elsewhere, at_home}
use Rattle.session_requests.proofs.lost_requests.executes.Goals as goal

pub returns-then-no_database : goal.returns-then-no_database
returns-then-no_database c = λ databases.
    elsewhere (session_of databases c.args.session.now) c.args.db (lost_exec (prepared_at c.args.session.now.statements.items c.args.id) c.args.params.now)
    (sym (c.no_database.ensures databases) ∙ c.if-no_database.true)

pub returns : goal.returns
returns c = λ databases.
    IfOk-weaker c.wanted_by_prepared.result _ _
    (λ w e. e ∙ ap (λ (o : Option Prepared). lost_exec o c.args.params.now) c.in_ok-statement.ensures
    ∙ at_home (session_of databases c.args.session.now) c.args.db (lost_exec (prepared_at c.args.session.now.statements.items c.args.id) c.args.params.now)
    (sym (c.no_database.ensures databases) ∙ c.if-no_database.false))
    c.wanted_by_prepared.ensures
