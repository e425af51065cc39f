use Rattle.std.proofs.Common.{Bool, Option, ap, ◌∙◌}
use Rattle.session_spec.specs.Asking as asking
use Rattle.session_spec.specs.Sessions.{Prepared, in_tx}
use Rattle.session_spec.specs.Statements.{prepared_at}
use Rattle.session_table.specs.Table.{session_of}
use Rattle.session_requests.specs.Meant.{hinders_named}
use Rattle.session_requests.proofs.Refused.{refused, passed}
use Rattle.session_requests.proofs.statement_requests.executes.Goals as goal

pub returns-in-Some-clause-wants : goal.returns-in-Some-clause-wants
returns-in-Some-clause-wants c = λ databases. refused c.hindrance_at_leader.result c.in-Some.cause (asking.asks_exec (hinders_named c.args.hinders) (in_tx (session_of databases c.args.session.now)) (prepared_at c.args.session.now.statements.items c.args.id) c.args.params.now) _ (c.hindrance_at_leader.ensures databases (asking.asks_exec (hinders_named c.args.hinders) (in_tx (session_of databases c.args.session.now)) (prepared_at c.args.session.now.statements.items c.args.id) c.args.params.now)) c.in-Some.is

pub returns-in_ok-statement-in-None-clause-wants : goal.returns-in_ok-statement-in-None-clause-wants
returns-in_ok-statement-in-None-clause-wants c = λ databases.
    passed c.hindrance_at_leader.result (asking.asks_exec (hinders_named c.args.hinders) (in_tx (session_of databases c.args.session.now)) (prepared_at c.args.session.now.statements.items c.args.id) c.args.params.now) _ _ (c.hindrance_at_leader.ensures databases (asking.asks_exec (hinders_named c.args.hinders) (in_tx (session_of databases c.args.session.now)) (prepared_at c.args.session.now.statements.items c.args.id) c.args.params.now)) c.in-None.is (c.wanted_by_exec.ensures.wants
    ∙ ap (λ (b : Bool). asking.asks_exec (hinders_named c.args.hinders) b c.in_ok-statement-in-None.statement c.args.params.now) (c.is_inside.ensures databases)
    ∙ ap (λ (o : Option Prepared). asking.asks_exec (hinders_named c.args.hinders) (in_tx (session_of databases c.args.session.now)) o c.args.params.now) c.in_ok-statement-in-None.ensures)
