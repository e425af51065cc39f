use Rattle.std.proofs.Common.{get_or, refl, sym, subst}
use Rattle.session_outcomes.specs.declared.decision.Decision.{Decision}
use Rattle.session_table.specs.Working.{works_of}
use Rattle.session_table.proofs.Works.{among_more}
use Rattle.session_outcomes.specs.Numbers.{work_in}
use Rattle.session_gateway.specs.Carrying.{CanCarry, AgreesOn}
use Rattle.session_gateway.proofs.Numbering.{fewer_agree}
use Rattle.session_gateway.proofs.carrying.carry_out.Goals as goal

pub change_told-requires-clause-can : goal.change_told-requires-clause-can
change_told-requires-clause-can c = λ session. subst (λ (t : Decision). CanCarry (get_or c.args.sessions.now.items c.args.place session) t) c.in-Answers.is (c.requires.can session)

pub begin_told-requires-clause-can : goal.begin_told-requires-clause-can
begin_told-requires-clause-can c = λ session. subst (λ (t : Decision). CanCarry (get_or c.args.sessions.now.items c.args.place session) t) c.in-Begins.is (c.requires.can session)

pub returns-in_err-act-in-Answers-clause-agree : goal.returns-in_err-act-in-Answers-clause-agree
returns-in_err-act-in-Answers-clause-agree c = λ own.
    let all = c.args.sessions.now.items in
    let made = work_in c.args.decision (get_or all c.args.place own).transaction in
    fewer_agree made all all c.args.machine.now c.args.machine.now refl (among_more made (works_of all))

pub returns-in-Creates-clause-agree : goal.returns-in-Creates-clause-agree
returns-in-Creates-clause-agree c = λ own.
    let all = c.args.sessions.now.items in
    subst (λ (t : Decision). AgreesOn (work_in t (get_or all c.args.place own).transaction) all c.args.machine.now c.change_told-in-Creates.new.sessions.items c.args.machine.now) (sym c.in-Creates.is) (c.change_told-in-Creates.ensures.agree own c.args.machine.now)

pub returns-in-Lends-clause-agree : goal.returns-in-Lends-clause-agree
returns-in-Lends-clause-agree c = λ own.
    let all = c.args.sessions.now.items in
    subst (λ (t : Decision). AgreesOn (work_in t (get_or all c.args.place own).transaction) all c.args.machine.now c.change_told-in-Lends.new.sessions.items c.args.machine.now) (sym c.in-Lends.is) (c.change_told-in-Lends.ensures.agree own c.args.machine.now)

pub returns-in-Proposes-clause-agree : goal.returns-in-Proposes-clause-agree
returns-in-Proposes-clause-agree c = λ own.
    let all = c.args.sessions.now.items in
    subst (λ (t : Decision). AgreesOn (work_in t (get_or all c.args.place own).transaction) all c.args.machine.now c.change_told-in-Proposes.new.sessions.items c.args.machine.now) (sym c.in-Proposes.is) (c.change_told-in-Proposes.ensures.agree own c.args.machine.now)
