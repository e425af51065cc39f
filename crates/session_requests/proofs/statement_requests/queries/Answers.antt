use Rattle.std.proofs.Common.{Option, ap, ◌∙◌}
use Rattle.session_spec.specs.Asking as asking
use Rattle.session_spec.specs.Sessions.{Prepared}
use Rattle.session_spec.specs.Statements.{prepared_at}
use Rattle.session_requests.specs.Meant.{hinders_named}
use Rattle.session_requests.proofs.Refused.{refused, passed}
use Rattle.session_requests.proofs.statement_requests.queries.Goals as goal

pub returns-in-Some-clause-wants : goal.returns-in-Some-clause-wants
returns-in-Some-clause-wants c = λ databases. refused c.hindrance_at_leader.result c.in-Some.cause (asking.asks_prepared_query (hinders_named c.args.hinders) (prepared_at c.args.session.now.statements.items c.args.id) c.args.params.now) _ (c.hindrance_at_leader.ensures databases (asking.asks_prepared_query (hinders_named c.args.hinders) (prepared_at c.args.session.now.statements.items c.args.id) c.args.params.now)) c.in-Some.is

pub returns-in_ok-statement-in-None-clause-wants : goal.returns-in_ok-statement-in-None-clause-wants
returns-in_ok-statement-in-None-clause-wants c = λ databases.
    passed c.hindrance_at_leader.result (asking.asks_prepared_query (hinders_named c.args.hinders) (prepared_at c.args.session.now.statements.items c.args.id) c.args.params.now) _ _ (c.hindrance_at_leader.ensures databases (asking.asks_prepared_query (hinders_named c.args.hinders) (prepared_at c.args.session.now.statements.items c.args.id) c.args.params.now)) c.in-None.is (c.wanted_by_query.ensures ∙ ap (λ (o : Option Prepared). asking.asks_prepared_query (hinders_named c.args.hinders) o c.args.params.now) c.in_ok-statement-in-None.ensures)
