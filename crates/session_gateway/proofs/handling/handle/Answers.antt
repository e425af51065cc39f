use Rattle.std.proofs.Common.{List, length, get_or, map, IfOk, sym, ap, subst, ◌∙◌}
use Rattle.std.proofs.lemmas.Option.{MatchOption-at_some}
use Rattle.std.proofs.lemmas.Result.{IfOk-weaker}
use Rattle.session_spec.specs.Machine.{machine_of}
use Rattle.session_spec.specs.Touched.{IsListed}
use Rattle.database_state.specs.ImageNumbers.{numbered}
use Rattle.session_statements.specs.Agreeing.{Agree}
use Rattle.session_table.specs.Table.{table_of}
use Rattle.session_table.specs.Working.{works_of}
use Rattle.session_table.specs.declared.session.Session.{Session}
use Rattle.session_table.specs.Changing.{IsAbsent, StandsAt}
use Rattle.session_gateway.proofs.Decided.{is_found, stands_somewhere, moved, carry_at}
use Rattle.session_gateway.specs.Carrying.{CanCarry, Carries}
use Rattle.session_gateway.proofs.Carried.{turned_by}
use Rattle.session_gateway.proofs.Numbering.{carried_agree, failed_agree}
use Rattle.session_gateway.proofs.Placed.{lent_back}
use Rattle.session_gateway.proofs.Unopened.{unopened_turn}
use Rattle.session_gateway.proofs.handling.handle.Goals as goal

pub unwrap-place-requires : goal.unwrap-place-requires
unwrap-place-requires g c =
    is_found c.find.result _ _ c.find.ensures (λ none. stands_somewhere c.args.machine.now c.args.sessions.now.items c.args.weight.now c.args.conn c.requires.there (subst (IsAbsent c.args.conn) c.as_slice.ensures.value none))

pub decide-requires-clause-listed : goal.decide-requires-clause-listed
decide-requires-clause-listed g c =
    subst (λ (ss : List Session). IsListed ((table_of c.args.machine.now ss c.args.weight.now).session c.args.conn).tx) (sym c.as_mut_slice-known.ensures.value) c.requires.listed

pub carry_out-requires-clause-can : goal.carry_out-requires-clause-can
carry_out-requires-clause-can g c = λ session.
    let back = lent_back _ _ _ (c.decide.ensures.kept ∙ c.as_mut_slice-known.ensures.value) (sym c.as_mut_slice-known.ensures.len ∙ ap length c.as_mut_slice-known.ensures.value) in
    let at : StandsAt c.args.conn c.args.sessions.now.items c.unwrap-place.result = subst (λ (ss : List Session). StandsAt c.args.conn ss c.unwrap-place.result) c.as_slice.ensures.value (MatchOption-at_some _ _ c.unwrap-place.result c.unwrap-place.ensures c.find.ensures) in
    subst (λ (ss : List Session). CanCarry (get_or ss c.unwrap-place.result session) c.in_ok-decision.decision) (sym back)
    (carry_at _ _ c.args.call.now.view.now c.args.machine.now c.args.sessions.now.items c.as_mut_slice-known.result.now c.args.weight.now c.args.conn c.unwrap-place.result session c.args.request _ _ c.in_ok-decision.decision c.as_mut_slice-known.ensures.value c.requires.table.apart at c.in_ok-decision.ensures.ran)

pub returns-clause-turned : goal.returns-clause-turned
returns-clause-turned g c =
    let back = lent_back _ _ _ (c.decide.ensures.kept ∙ c.as_mut_slice-known.ensures.value) (sym c.as_mut_slice-known.ensures.len ∙ ap length c.as_mut_slice-known.ensures.value) in
    let ran = moved _ _ c.args.call.now.view.now c.args.machine.now c.args.sessions.now.items c.as_mut_slice-known.result.now c.args.weight.now c.args.conn c.args.request _ _ c.in_ok-decision.decision c.as_mut_slice-known.ensures.value c.in_ok-decision.ensures.ran in
    IfOk-weaker c.carry_out.result _ _
    (λ act carries. turned_by _ _ c.args.call.now.view.now (machine_of c.args.machine.now) (table_of c.args.machine.now c.args.sessions.now.items c.args.weight.now) c.args.conn _ _ (table_of c.carry_out.new.machine c.carry_out.new.sessions.items c.carry_out.new.weight) act c.in_ok-decision.decision carries c.args.request ran)
    (subst (λ (ss : List Session). IfOk c.carry_out.result (Carries (machine_of c.args.machine.now) (table_of c.args.machine.now ss c.args.weight.now) c.args.conn c.in_ok-decision.decision (table_of c.carry_out.new.machine c.carry_out.new.sessions.items c.carry_out.new.weight))) back c.carry_out.ensures.done)

pub returns-clause-unopened : goal.returns-clause-unopened
returns-clause-unopened g c =
    let back = lent_back _ _ _ (c.decide.ensures.kept ∙ c.as_mut_slice-known.ensures.value) (sym c.as_mut_slice-known.ensures.len ∙ ap length c.as_mut_slice-known.ensures.value) in
    let ran = moved _ _ c.args.call.now.view.now c.args.machine.now c.args.sessions.now.items c.as_mut_slice-known.result.now c.args.weight.now c.args.conn c.args.request _ _ c.in_ok-decision.decision c.as_mut_slice-known.ensures.value c.in_ok-decision.ensures.ran in
    IfOk-weaker c.carry_out.result _ _
    (λ act h is. c.in_ok-decision.ensures.unopened (unopened_turn c.args.call.now.view.now (machine_of c.args.machine.now) (table_of c.args.machine.now c.args.sessions.now.items c.args.weight.now) c.args.conn c.args.request ran.answers (table_of c.carry_out.new.machine c.carry_out.new.sessions.items c.carry_out.new.weight) act is c.in_ok-decision.decision ran.is h))
    (subst (λ (ss : List Session). IfOk c.carry_out.result (Carries (machine_of c.args.machine.now) (table_of c.args.machine.now ss c.args.weight.now) c.args.conn c.in_ok-decision.decision (table_of c.carry_out.new.machine c.carry_out.new.sessions.items c.carry_out.new.weight))) back c.carry_out.ensures.done)

pub returns-clause-agree : goal.returns-clause-agree
returns-clause-agree g c =
    let back = lent_back _ _ _ (c.decide.ensures.kept ∙ c.as_mut_slice-known.ensures.value) (sym c.as_mut_slice-known.ensures.len ∙ ap length c.as_mut_slice-known.ensures.value) in
    let at : StandsAt c.args.conn c.args.sessions.now.items c.unwrap-place.result = subst (λ (ss : List Session). StandsAt c.args.conn ss c.unwrap-place.result) c.as_slice.ensures.value (MatchOption-at_some _ _ c.unwrap-place.result c.unwrap-place.ensures c.find.ensures) in
    carried_agree _ c.args.sessions.now.items c.as_mut_slice-known.result.now _ c.unwrap-place.result _ c.args.machine.now at.within c.as_mut_slice-known.ensures.value back c.in_ok-decision.decision c.carry_out.new.sessions.items c.carry_out.new.machine c.in_ok-decision.ensures.agree c.carry_out.ensures.agree

pub returns-in_err-decision-clause-agree : goal.returns-in_err-decision-clause-agree
returns-in_err-decision-clause-agree g c =
    let back = lent_back _ _ _ (c.decide.ensures.kept ∙ c.as_mut_slice-known.ensures.value) (sym c.as_mut_slice-known.ensures.len ∙ ap length c.as_mut_slice-known.ensures.value) in
    let at : StandsAt c.args.conn c.args.sessions.now.items c.unwrap-place.result = subst (λ (ss : List Session). StandsAt c.args.conn ss c.unwrap-place.result) c.as_slice.ensures.value (MatchOption-at_some _ _ c.unwrap-place.result c.unwrap-place.ensures c.find.ensures) in
    failed_agree _ c.args.sessions.now.items c.as_mut_slice-known.result.now _ c.unwrap-place.result _ c.args.machine.now at.within c.as_mut_slice-known.ensures.value back _ c.in_err-decision.ensures.agree

pub decide-requires-clause-agree : goal.decide-requires-clause-agree
decide-requires-clause-agree g c =
    subst (λ (ss : List Session). Agree (g.E.Engine.known c.args.engine.now) (works_of ss) c.args.call.now.number (map numbered c.args.machine.now)) (sym c.as_mut_slice-known.ensures.value) c.requires.agree
