use Rattle.std.proofs.Common.{◌<◌, List, length, map, sym, subst}
use Rattle.std.proofs.lemmas.Result.{IfOk-weaker}
use Rattle.database_state.specs.ImageNumbers.{numbered}
use Rattle.session_spec.specs.Machine.{machine_of}
use Rattle.session_spec.specs.Requests.{on_later}
use Rattle.session_table.specs.declared.session.Session.{Session}
use Rattle.session_table.specs.Table.{table_of, AreApart}
use Rattle.session_table.specs.Working.{works_of}
use Rattle.session_statements.specs.Agreeing.{Agree}
use Rattle.session_gateway.proofs.Carried.{later_by}
use Rattle.session_gateway.proofs.Laters.{came_later, can_later, failed_there, opened_there, ran_agree}
use Rattle.session_gateway.proofs.Placed.{own_there}
use Rattle.session_gateway.proofs.Unopened.{unopened_later}
use Rattle.session_gateway.proofs.later.run.Goals as goal

pub decide-requires-clause-apart : goal.decide-requires-clause-apart
decide-requires-clause-apart g c = subst AreApart (sym c.as_slice-known.ensures.value) c.requires.table.apart

pub decide-requires-clause-opened : goal.decide-requires-clause-opened
decide-requires-clause-opened g c = opened_there c.args.machine.now c.args.sessions.now.items c.as_slice-known.result.now c.args.seat.conn c.args.seat.place c.index-known-seat.result c.as_slice-known.ensures.value c.requires.table.apart c.requires.place c.index-known-seat.is c.args.weight.now c.requires.opened

pub decide-requires-clause-agree : goal.decide-requires-clause-agree
decide-requires-clause-agree g c = subst (λ (ss : List Session). Agree (g.E.Engine.known c.args.engine.now) (works_of ss) c.args.call.now.number (map numbered c.args.machine.now)) (sym c.as_slice-known.ensures.value) c.requires.agree

pub carry_out-requires-clause-can : goal.carry_out-requires-clause-can
carry_out-requires-clause-can g c = λ session.
    let ran = (came_later c.args.machine.now c.args.sessions.now.items c.as_slice-known.result.now c.args.seat.conn c.args.seat.place c.index-known-seat.result c.as_slice-known.ensures.value c.requires.table.apart c.requires.place c.index-known-seat.is _ _ c.args.call.now.view.now c.args.weight.now c.args.query.now _ _ c.in_ok-decision.decision (c.in_ok-decision.ensures.ran c.args.weight.now)) in
    can_later c.args.machine.now c.args.sessions.now.items c.as_slice-known.result.now c.args.seat.conn c.args.seat.place c.index-known-seat.result c.as_slice-known.ensures.value c.requires.table.apart c.requires.place c.index-known-seat.is c.args.call.now.view.now c.args.weight.now (on_later c.args.call.now.view.now (machine_of c.args.machine.now) (table_of c.args.machine.now c.args.sessions.now.items c.args.weight.now) c.args.seat.conn c.args.query.now ran.answers) c.in_ok-decision.decision session ran.is

pub returns-clause-ran : goal.returns-clause-ran
returns-clause-ran g c =
    let ran = (came_later c.args.machine.now c.args.sessions.now.items c.as_slice-known.result.now c.args.seat.conn c.args.seat.place c.index-known-seat.result c.as_slice-known.ensures.value c.requires.table.apart c.requires.place c.index-known-seat.is _ _ c.args.call.now.view.now c.args.weight.now c.args.query.now _ _ c.in_ok-decision.decision (c.in_ok-decision.ensures.ran c.args.weight.now)) in
    IfOk-weaker c.carry_out.result _ _
    (λ act carries. later_by _ _ c.args.call.now.view.now (machine_of c.args.machine.now) (table_of c.args.machine.now c.args.sessions.now.items c.args.weight.now) c.args.seat.conn _ _ (table_of c.carry_out.new.machine c.carry_out.new.sessions.items c.carry_out.new.weight) act c.in_ok-decision.decision carries c.args.query.now ran)
    c.carry_out.ensures.done

pub returns-clause-unopened : goal.returns-clause-unopened
returns-clause-unopened g c =
    let ran = (came_later c.args.machine.now c.args.sessions.now.items c.as_slice-known.result.now c.args.seat.conn c.args.seat.place c.index-known-seat.result c.as_slice-known.ensures.value c.requires.table.apart c.requires.place c.index-known-seat.is _ _ c.args.call.now.view.now c.args.weight.now c.args.query.now _ _ c.in_ok-decision.decision (c.in_ok-decision.ensures.ran c.args.weight.now)) in
    IfOk-weaker c.carry_out.result _ _
    (λ act h is. c.in_ok-decision.ensures.unopened (unopened_later c.args.call.now.view.now (machine_of c.args.machine.now) (table_of c.args.machine.now c.args.sessions.now.items c.args.weight.now) c.args.seat.conn c.args.query.now ran.answers (table_of c.carry_out.new.machine c.carry_out.new.sessions.items c.carry_out.new.weight) act is c.in_ok-decision.decision ran.is h))
    c.carry_out.ensures.done

pub decide-requires-clause-own : goal.decide-requires-clause-own
decide-requires-clause-own g c = own_there c.as_slice-known.result.now c.args.seat.place c.index-known-seat.result (subst (λ (ss : List Session). c.args.seat.place < length ss) (sym c.as_slice-known.ensures.value) c.requires.place.within) c.index-known-seat.is

pub returns-clause-agree : goal.returns-clause-agree
returns-clause-agree g c =
    ran_agree c.args.machine.now c.args.sessions.now.items c.as_slice-known.result.now c.args.seat.conn c.args.seat.place c.index-known-seat.result c.as_slice-known.ensures.value c.requires.table.apart c.requires.place c.index-known-seat.is _ _ c.in_ok-decision.decision c.carry_out.new.sessions.items c.carry_out.new.machine c.in_ok-decision.ensures.agree c.carry_out.ensures.agree

pub returns-in_err-decision-clause-agree : goal.returns-in_err-decision-clause-agree
returns-in_err-decision-clause-agree g c =
    failed_there c.args.machine.now c.args.sessions.now.items c.as_slice-known.result.now c.args.seat.conn c.args.seat.place c.index-known-seat.result c.as_slice-known.ensures.value c.requires.table.apart c.requires.place c.index-known-seat.is _ _ _ c.in_err-decision.ensures.agree
