use Rattle.std.proofs.Common.{get_or, sym, subst}
use Rattle.std.proofs.lemmas.Result.{IfOk-weaker}
use Rattle.session_spec.specs.Machine.{machine_of}
use Rattle.session_spec.specs.Sessions.{Session as RuleSession}
use Rattle.session_spec.specs.Touched.{IsListed}
use Rattle.session_table.specs.Table.{session_of, table_of}
use Rattle.session_gateway.proofs.Configured.{configured}
use Rattle.session_gateway.proofs.Decided.{decided, here_at, pins_part}
use Rattle.session_gateway.proofs.Placed.{can_at, wants_at}
use Rattle.session_gateway.proofs.deciding.decide.Goals as goal

pub decision_of-requires-clause-live : goal.decision_of-requires-clause-live
decision_of-requires-clause-live g c = λ own. pins_part c.args.machine.now c.args.sessions.now c.args.seat.place own c.requires.place.within c.requires.marks

pub decision_of-requires-clause-listed : goal.decision_of-requires-clause-listed
decision_of-requires-clause-listed g c = λ own.
    subst (λ (s : RuleSession). IsListed s.tx) (sym (here_at c.args.machine.now c.args.sessions.now c.args.weight c.args.seat.conn c.args.seat.place own c.requires.apart c.requires.place)) c.requires.listed

pub decision_of-requires-clause-can : goal.decision_of-requires-clause-can
decision_of-requires-clause-can g c = λ own.
    can_at c.args.sessions.now c.args.seat.place c.index-known-seat.result c.requires.place.within c.index-known-seat.is c.args.call.now.view.now c.args.machine.now c.into_params-params.result _ c.in_ok-wanted.wanted own c.into_params-params.ensures c.in_ok-wanted.ensures.can

pub returns-clause-ran : goal.returns-clause-ran
returns-clause-ran g c =
    let found = c.index-known-seat.result in
    IfOk-weaker c.decision_of.result _ _
    (λ decision h. decided _ _ c.args.call.now.view.now (machine_of c.args.machine.now) (table_of c.args.machine.now c.args.sessions.now c.args.weight) c.args.seat.conn (get_or c.args.sessions.now c.args.seat.place found).conn (session_of c.args.machine.now (get_or c.args.sessions.now c.args.seat.place found)) c.into_params-params.result c.in_ok-wanted.wanted c.args.request _ _ decision
    (here_at c.args.machine.now c.args.sessions.now c.args.weight c.args.seat.conn c.args.seat.place found c.requires.apart c.requires.place)
    (c.requires.place.own found)
    (wants_at c.args.call.now.view.now c.args.machine.now c.args.sessions.now c.args.weight found (get_or c.args.sessions.now c.args.seat.place found) c.into_params-params.result _ c.in_ok-wanted.wanted c.args.request c.into_params-params.ensures c.index-known-seat.is c.in_ok-wanted.ensures.wants) h)
    (c.decision_of.ensures.ran found c.args.weight)

pub decision_of-requires-clause-configures : goal.decision_of-requires-clause-configures
decision_of-requires-clause-configures g c = configured c.args.call.now.view.now (machine_of c.args.machine.now) (table_of c.args.machine.now c.args.sessions.now c.args.weight) c.index-known-seat.result.conn (session_of c.args.machine.now c.index-known-seat.result) c.args.request _ c.in_ok-wanted.wanted c.requires.configured c.requires.address c.in_ok-wanted.ensures.wants
