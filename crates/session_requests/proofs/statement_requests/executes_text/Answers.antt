use Rattle.std.proofs.Common.{Bool, ap, ◌∙◌}
use Rattle.std.proofs.lemmas.Result.{IfOk-weaker}
use Rattle.sql_scan.specs.Statements.{scan_of}
use Rattle.session_spec.specs.Asking as asking
use Rattle.session_spec.specs.Sessions.{in_tx}
use Rattle.session_table.specs.Table.{session_of}
use Rattle.session_requests.specs.Meant.{hinders_named}
use Rattle.session_requests.proofs.Refused.{refused, passed}
use Rattle.session_requests.proofs.statement_requests.executes_text.Goals as goal

pub returns-in-Some-clause-wants : goal.returns-in-Some-clause-wants
returns-in-Some-clause-wants c = λ databases. refused c.hindrance_at_leader.result c.in-Some.cause (asking.asks_text (hinders_named c.args.hinders) (in_tx (session_of databases c.args.session.now)) c.args.sql.now (scan_of c.args.sql.now) c.args.params.now) _ (c.hindrance_at_leader.ensures databases (asking.asks_text (hinders_named c.args.hinders) (in_tx (session_of databases c.args.session.now)) c.args.sql.now (scan_of c.args.sql.now) c.args.params.now)) c.in-Some.is

pub returns-in-None-clause-wants : goal.returns-in-None-clause-wants
returns-in-None-clause-wants c = λ databases.
    IfOk-weaker c.wanted_by_text.result _ _ (λ w e. passed c.hindrance_at_leader.result (asking.asks_text (hinders_named c.args.hinders) (in_tx (session_of databases c.args.session.now)) c.args.sql.now (scan_of c.args.sql.now) c.args.params.now) _ _ (c.hindrance_at_leader.ensures databases (asking.asks_text (hinders_named c.args.hinders) (in_tx (session_of databases c.args.session.now)) c.args.sql.now (scan_of c.args.sql.now) c.args.params.now)) c.in-None.is (e ∙ ap (λ (b : Bool). asking.asks_text (hinders_named c.args.hinders) b c.args.sql.now (scan_of c.args.sql.now) c.args.params.now) (c.is_inside.ensures databases))) c.wanted_by_text.ensures.wants
