use Rattle.session_table.specs.Table.{session_of}
use Rattle.session_requests.proofs.LostWants.{exec_lost, exec_text_lost}
use Rattle.session_requests.proofs.lost_requests.wanted_by_request.Goals as goal

pub returns-in_ok-wanted-in-Exec : goal.returns-in_ok-wanted-in-Exec
returns-in_ok-wanted-in-Exec c = λ databases.
    exec_lost (session_of databases c.args.session.now) c.args.request.now c.as_slice-params.result.now c.in_ok-wanted-in-Exec.wanted
    c.in-Exec.db c.in-Exec.statement c.in-Exec.params c.in-Exec.wide c.in-Exec.is c.as_slice-params.ensures (c.in_ok-wanted-in-Exec.ensures databases)

pub returns-in_ok-wanted-in-ExecSql : goal.returns-in_ok-wanted-in-ExecSql
returns-in_ok-wanted-in-ExecSql c = λ databases.
    exec_text_lost (session_of databases c.args.session.now) c.args.request.now c.as_slice-params-in-ExecSql.result.now c.in_ok-wanted-in-ExecSql.wanted
    c.in-ExecSql.db c.in-ExecSql.sql c.in-ExecSql.params c.in-ExecSql.wide c.in-ExecSql.is c.as_str.result.now c.as_slice-params-in-ExecSql.ensures c.as_str.ensures.same
    (c.in_ok-wanted-in-ExecSql.ensures databases)
