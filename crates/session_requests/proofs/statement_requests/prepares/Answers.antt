use Rattle.std.proofs.lemmas.Result.{IfOk-weaker}
use Rattle.sql_scan.specs.Statements.{scan_of}
use Rattle.session_spec.specs.Asking as asking
use Rattle.session_table.specs.Table.{session_of}
use Rattle.session_requests.proofs.Refused.{refused, passed}
use Rattle.session_requests.proofs.statement_requests.prepares.Goals as goal

pub returns-in-Some-clause-wants : goal.returns-in-Some-clause-wants
returns-in-Some-clause-wants c = λ databases. refused c.hindrance_at_leader.result c.in-Some.cause (asking.asks_prepare (session_of databases c.args.session.now) c.args.sql.now c.args.wide (scan_of c.args.sql.now)) _ (c.hindrance_at_leader.ensures databases (asking.asks_prepare (session_of databases c.args.session.now) c.args.sql.now c.args.wide (scan_of c.args.sql.now))) c.in-Some.is

pub returns-in-None-clause-wants : goal.returns-in-None-clause-wants
returns-in-None-clause-wants c = λ databases.
    IfOk-weaker c.wanted_by_prepare.result _ _ (λ w e. passed c.hindrance_at_leader.result (asking.asks_prepare (session_of databases c.args.session.now) c.args.sql.now c.args.wide (scan_of c.args.sql.now)) _ _ (c.hindrance_at_leader.ensures databases (asking.asks_prepare (session_of databases c.args.session.now) c.args.sql.now c.args.wide (scan_of c.args.sql.now))) c.in-None.is e) (c.wanted_by_prepare.ensures.wants databases)
