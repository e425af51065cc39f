use Rattle.std.proofs.Common.{subst, sym}
use Rattle.std.specs.Prelude.{IsSome}
use Rattle.session_table.specs.declared.session.Session.{Session}
use Rattle.session_table.proofs.Roomy.{has_room}
use Rattle.session_table.proofs.Starting.{begun_table, begun_marks, begun_fits}
use Rattle.session_table.proofs.Works.{begun_works}
use Rattle.session_table.proofs.beginning.begin.Goals as goal

pub returns-clause-ok : goal.returns-clause-ok
returns-clause-ok c = λ weight.
    let s = c.index.result.now in
    begun_table c.args.machine.now c.transaction_of_session.new.machine c.args.sessions.now.items c.put.new.sessions.items c.args.place weight c.args.conn c.in_ok-transaction.transaction s c.args.at_once
    c.requires.table c.requires.place c.requires.marks c.index.ensures (subst (λ (t : Session). IsSome t.database) (sym c.index.ensures) (c.requires.open s)) c.in_ok-transaction.ensures.gained c.in_ok-transaction.ensures.begun (c.put.ensures s)

pub returns-clause-marks_after : goal.returns-clause-marks_after
returns-clause-marks_after c =
    let s = c.index.result.now in
    begun_marks c.args.machine.now c.transaction_of_session.new.machine c.args.sessions.now.items c.put.new.sessions.items c.args.place c.args.conn c.in_ok-transaction.transaction s
    c.requires.place c.requires.marks (c.requires.idle s) c.in_ok-transaction.ensures.gained (c.put.ensures s)

pub returns-clause-fit : goal.returns-clause-fit
returns-clause-fit c =
    let s = c.index.result.now in
    begun_fits c.args.sessions.now.items c.put.new.sessions.items c.args.place c.args.conn c.in_ok-transaction.transaction s c.requires.table c.requires.place (c.put.ensures s)

pub transaction_of_session-requires-clause-room : goal.transaction_of_session-requires-clause-room
transaction_of_session-requires-clause-room c =
    let s = c.index.result.now in
    has_room c.args.sessions.now.items c.args.place s c.args.machine.now c.requires.table c.requires.place.within (c.requires.idle s) c.requires.marks

pub returns-clause-works : goal.returns-clause-works
returns-clause-works c =
    let s = c.index.result.now in
    begun_works c.args.sessions.now.items c.put.new.sessions.items c.args.place s c.in_ok-transaction.transaction c.args.machine.now (c.put.ensures s) c.in_ok-transaction.ensures.work
