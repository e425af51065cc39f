use Rattle.session_spec.specs.Asking as asking
use Rattle.session_spec.specs.Statements.{prepared_at}
use Rattle.session_requests.proofs.Refused.{refused, passed}
use Rattle.session_requests.proofs.statement_requests.finalizes.Goals as goal

pub returns-in-Some-clause-wants : goal.returns-in-Some-clause-wants
returns-in-Some-clause-wants c = λ databases. refused c.refusal.result c.in-Some.cause (asking.asks_finalize (prepared_at c.args.session.now.statements.items c.args.id) c.args.id) _ (c.refusal.ensures databases (asking.asks_finalize (prepared_at c.args.session.now.statements.items c.args.id) c.args.id)) c.in-Some.is

pub returns-in-None-clause-wants : goal.returns-in-None-clause-wants
returns-in-None-clause-wants c = λ databases.
    passed c.refusal.result (asking.asks_finalize (prepared_at c.args.session.now.statements.items c.args.id) c.args.id) _ _ (c.refusal.ensures databases (asking.asks_finalize (prepared_at c.args.session.now.statements.items c.args.id) c.args.id)) c.in-None.is c.wanted_by_finalize.ensures.wants
