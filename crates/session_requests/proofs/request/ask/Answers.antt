use Rattle.std.proofs.Common.{◌≡◌, ℕ, List, [], subst}
use Rattle.std.specs.Prelude.{IfOk}
use Rattle.std.proofs.lemmas.Result.{IfOk-weaker}
use Rattle.sql_scan.specs.Statements.{scan_of}
use Rattle.session_spec.specs.Asking as asking
use Rattle.session_spec.specs.Asking.{asked_unless_lost}
use Rattle.session_spec.specs.Machine.{machine_of}
use Rattle.session_table.specs.Table.{session_of, table_of}
use Rattle.session_requests.specs.declared.wanted.RequestPlan.{RequestPlan}
use Rattle.session_requests.specs.Meant.{meant, params_of}
use Rattle.session_requests.proofs.Asked.{of_request, of_result, exec_wants, query_wants, exec_text_wants, query_text_wants}
use Rattle.session_requests.proofs.Plain.{plain_can, open_plain, add_plain, assign_plain, remove_plain, interrupt_plain}
use Rattle.session_requests.proofs.request.ask.Goals as goal

pub returns-in-Open-clause-wants : goal.returns-in-Open-clause-wants
unfolding asked_unless_lost
returns-in-Open-clause-wants c =
    of_result c.args.view.now (machine_of c.args.machine.now) (table_of c.args.machine.now c.args.sessions.now c.args.weight) c.args.session.now.conn (session_of c.args.machine.now c.args.session.now) c.args.request.now _ c.in-Open.is c.opens.result
    (subst (λ (name : List ℕ). IfOk c.opens.result (λ (w : RequestPlan). meant [] w ≡ asking.at_leader c.args.view.now (asking.asks_open c.args.view.now (machine_of c.args.machine.now) (table_of c.args.machine.now c.args.sessions.now c.args.weight) (session_of c.args.machine.now c.args.session.now) name (asking.barriers_asked c.in-Open.flags)))) c.as_str.ensures.same (c.opens.ensures c.args.weight))

pub returns-in-Open-clause-fits : goal.returns-in-Open-clause-fits
returns-in-Open-clause-fits c =
    IfOk-weaker c.opens.result _ _ (λ w e. plain_can c.args.session.now.statements.items (params_of c.args.request.now) [] w _ e (open_plain c.args.view.now (machine_of c.args.machine.now) (table_of c.args.machine.now c.args.sessions.now c.args.weight) (session_of c.args.machine.now c.args.session.now) c.as_str.result.now (asking.barriers_asked c.in-Open.flags))) (c.opens.ensures c.args.weight)

pub returns-in-Prepare-clause-wants : goal.returns-in-Prepare-clause-wants
unfolding asked_unless_lost
returns-in-Prepare-clause-wants c =
    of_result c.args.view.now (machine_of c.args.machine.now) (table_of c.args.machine.now c.args.sessions.now c.args.weight) c.args.session.now.conn (session_of c.args.machine.now c.args.session.now) c.args.request.now _ c.in-Prepare.is c.prepares.result
    (subst (λ (sql : List ℕ). IfOk c.prepares.result (λ (w : RequestPlan). meant [] w ≡ asking.at_leader c.args.view.now (asking.in_database (session_of c.args.machine.now c.args.session.now) c.in-Prepare.db (asking.asks_prepare (session_of c.args.machine.now c.args.session.now) sql c.in-Prepare.wide (scan_of sql))))) c.as_str-in-Prepare.ensures.same (c.prepares.ensures.wants c.args.machine.now))

pub returns-in-Exec-clause-wants : goal.returns-in-Exec-clause-wants
returns-in-Exec-clause-wants c =
    exec_wants c.args.view.now (machine_of c.args.machine.now) (table_of c.args.machine.now c.args.sessions.now c.args.weight) c.args.session.now.conn
    (session_of c.args.machine.now c.args.session.now) c.args.request.now c.in-Exec.db c.in-Exec.statement c.in-Exec.params c.in-Exec.wide
    c.in-Exec.is _ _ c.executes.result c.as_slice-params.ensures (c.write_hindrance-hinders.ensures c.args.weight)
    (c.executes.ensures.wants c.args.machine.now)

pub returns-in-Query-clause-wants : goal.returns-in-Query-clause-wants
returns-in-Query-clause-wants c =
    query_wants c.args.view.now (machine_of c.args.machine.now) (table_of c.args.machine.now c.args.sessions.now c.args.weight) c.args.session.now.conn
    (session_of c.args.machine.now c.args.session.now) c.args.request.now c.in-Query.db c.in-Query.statement c.in-Query.params c.in-Query.wide
    c.in-Query.is _ _ c.queries.result c.as_slice-params-in-Query.ensures (c.write_hindrance-hinders-in-Query.ensures c.args.weight)
    (c.queries.ensures.wants c.args.machine.now)

pub returns-in-Finalize-clause-wants : goal.returns-in-Finalize-clause-wants
unfolding asked_unless_lost
returns-in-Finalize-clause-wants c = of_request c.args.view.now (machine_of c.args.machine.now) (table_of c.args.machine.now c.args.sessions.now c.args.weight) c.args.session.now.conn (session_of c.args.machine.now c.args.session.now) c.args.request.now _ c.in-Finalize.is c.finalizes.result (c.finalizes.ensures.wants c.args.machine.now)

pub returns-in-ExecSql-clause-wants : goal.returns-in-ExecSql-clause-wants
returns-in-ExecSql-clause-wants c =
    exec_text_wants c.args.view.now (machine_of c.args.machine.now) (table_of c.args.machine.now c.args.sessions.now c.args.weight) c.args.session.now.conn
    (session_of c.args.machine.now c.args.session.now) c.args.request.now c.in-ExecSql.db c.in-ExecSql.sql c.in-ExecSql.params c.in-ExecSql.wide
    c.in-ExecSql.is _ _ _ c.executes_text.result c.as_slice-params-in-ExecSql.ensures c.as_str-in-ExecSql.ensures.same (c.write_hindrance-hinders-in-ExecSql.ensures c.args.weight)
    (c.executes_text.ensures.wants c.args.machine.now)

pub returns-in-QuerySql-clause-wants : goal.returns-in-QuerySql-clause-wants
returns-in-QuerySql-clause-wants c =
    query_text_wants c.args.view.now (machine_of c.args.machine.now) (table_of c.args.machine.now c.args.sessions.now c.args.weight) c.args.session.now.conn
    (session_of c.args.machine.now c.args.session.now) c.args.request.now c.in-QuerySql.db c.in-QuerySql.sql c.in-QuerySql.params c.in-QuerySql.wide
    c.in-QuerySql.is _ _ _ c.queries_text.result c.as_slice-params-in-QuerySql.ensures c.as_str-in-QuerySql.ensures.same (c.write_hindrance-hinders-in-QuerySql.ensures c.args.weight)
    (c.queries_text.ensures.wants c.args.machine.now)

pub returns-in-Interrupt-clause-wants : goal.returns-in-Interrupt-clause-wants
unfolding asked_unless_lost
returns-in-Interrupt-clause-wants c = of_request c.args.view.now (machine_of c.args.machine.now) (table_of c.args.machine.now c.args.sessions.now c.args.weight) c.args.session.now.conn (session_of c.args.machine.now c.args.session.now) c.args.request.now _ c.in-Interrupt.is c.interrupts.result (c.interrupts.ensures c.args.machine.now)

pub returns-in-Interrupt-clause-fits : goal.returns-in-Interrupt-clause-fits
returns-in-Interrupt-clause-fits c =
    plain_can c.args.session.now.statements.items (params_of c.args.request.now) [] c.interrupts.result _ (c.interrupts.ensures c.args.machine.now) (interrupt_plain (session_of c.args.machine.now c.args.session.now) c.in-Interrupt.db)

pub returns-in-Describe-clause-wants : goal.returns-in-Describe-clause-wants
unfolding asked_unless_lost table_of
returns-in-Describe-clause-wants c = of_request c.args.view.now (machine_of c.args.machine.now) (table_of c.args.machine.now c.args.sessions.now c.args.weight) c.args.session.now.conn (session_of c.args.machine.now c.args.session.now) c.args.request.now _ c.in-Describe.is c.wanted_by_describe.result c.wanted_by_describe.ensures

pub returns-in-Add-clause-wants : goal.returns-in-Add-clause-wants
unfolding asked_unless_lost
returns-in-Add-clause-wants c =
    of_result c.args.view.now (machine_of c.args.machine.now) (table_of c.args.machine.now c.args.sessions.now c.args.weight) c.args.session.now.conn (session_of c.args.machine.now c.args.session.now) c.args.request.now _ c.in-Add.is c.adds.result (c.adds.ensures c.args.machine.now c.args.weight)

pub returns-in-Add-clause-fits : goal.returns-in-Add-clause-fits
returns-in-Add-clause-fits c =
    IfOk-weaker c.adds.result _ _ (λ w e. plain_can c.args.session.now.statements.items (params_of c.args.request.now) [] w _ e (add_plain c.args.view.now (table_of c.args.machine.now c.args.sessions.now c.args.weight) c.in-Add.id c.in-Add.address)) (c.adds.ensures c.args.machine.now c.args.weight)

pub returns-in-Assign-clause-wants : goal.returns-in-Assign-clause-wants
unfolding asked_unless_lost
returns-in-Assign-clause-wants c =
    of_result c.args.view.now (machine_of c.args.machine.now) (table_of c.args.machine.now c.args.sessions.now c.args.weight) c.args.session.now.conn (session_of c.args.machine.now c.args.session.now) c.args.request.now _ c.in-Assign.is c.assigns.result (c.assigns.ensures c.args.machine.now c.args.weight)

pub returns-in-Assign-clause-fits : goal.returns-in-Assign-clause-fits
returns-in-Assign-clause-fits c =
    IfOk-weaker c.assigns.result _ _ (λ w e. plain_can c.args.session.now.statements.items (params_of c.args.request.now) [] w _ e (assign_plain c.args.view.now (table_of c.args.machine.now c.args.sessions.now c.args.weight) c.in-Assign.id c.in-Assign.role)) (c.assigns.ensures c.args.machine.now c.args.weight)

pub returns-in-Remove-clause-wants : goal.returns-in-Remove-clause-wants
unfolding asked_unless_lost
returns-in-Remove-clause-wants c =
    of_result c.args.view.now (machine_of c.args.machine.now) (table_of c.args.machine.now c.args.sessions.now c.args.weight) c.args.session.now.conn (session_of c.args.machine.now c.args.session.now) c.args.request.now _ c.in-Remove.is c.removes.result (c.removes.ensures c.args.machine.now c.args.weight)

pub returns-in-Remove-clause-fits : goal.returns-in-Remove-clause-fits
returns-in-Remove-clause-fits c =
    IfOk-weaker c.removes.result _ _ (λ w e. plain_can c.args.session.now.statements.items (params_of c.args.request.now) [] w _ e (remove_plain c.args.view.now (table_of c.args.machine.now c.args.sessions.now c.args.weight) c.in-Remove.id)) (c.removes.ensures c.args.machine.now c.args.weight)
