use Rattle.std.proofs.lemmas.Result.{IfOk-weaker}
use Rattle.sql_scan.specs.Statements.{scan_of}
use Rattle.session_spec.specs.Asking as asking
use Rattle.session_requests.specs.Meant.{hinders_named}
use Rattle.session_requests.proofs.Refused.{refused, passed}
use Rattle.session_requests.proofs.statement_requests.queries_text.Goals as goal

pub returns-in-Some-clause-wants : goal.returns-in-Some-clause-wants
returns-in-Some-clause-wants c = λ databases. refused c.hindrance_at_leader.result c.in-Some.cause (asking.asks_rows (hinders_named c.args.hinders) c.args.sql.now (scan_of c.args.sql.now) c.args.params.now) _ (c.hindrance_at_leader.ensures databases (asking.asks_rows (hinders_named c.args.hinders) c.args.sql.now (scan_of c.args.sql.now) c.args.params.now)) c.in-Some.is

pub returns-in-None-clause-wants : goal.returns-in-None-clause-wants
returns-in-None-clause-wants c = λ databases.
    IfOk-weaker c.wanted_by_rows.result _ _ (λ w e. passed c.hindrance_at_leader.result (asking.asks_rows (hinders_named c.args.hinders) c.args.sql.now (scan_of c.args.sql.now) c.args.params.now) _ _ (c.hindrance_at_leader.ensures databases (asking.asks_rows (hinders_named c.args.hinders) c.args.sql.now (scan_of c.args.sql.now) c.args.params.now)) c.in-None.is e) c.wanted_by_rows.ensures.wants
