use Rattle.std.proofs.Common.{List, refl, sym, subst, ◌∙◌}
use Rattle.session_spec.specs.Machine.{machine_of}
use Rattle.session_table.specs.declared.session.Session.{Session}
use Rattle.session_table.specs.Changing.{IsAbsent, StandsAt}
use Rattle.session_table.specs.Named.{later_named}
use Rattle.session_table.specs.Table.{table_of}
use Rattle.session_gateway.proofs.Laters.{given_back, is_there, none_aside, none_resumed, nothing_nowhere, opened_aside}
use Rattle.session_gateway.proofs.later.resume.Goals as goal

pub returns-in_default-clause-resumed : goal.returns-in_default-clause-resumed
returns-in_default-clause-resumed g c =
    let none : IsAbsent c.args.conn c.args.sessions.now.items = subst (λ (ss : List Session). IsAbsent c.args.conn ss) c.as_slice.ensures.value c.in_default.ensures in
    none_resumed _ _ c.args.call.now.view.now (machine_of c.args.machine.now) (table_of c.args.machine.now c.args.sessions.now.items c.args.weight.now) c.args.conn _ _ (nothing_nowhere c.args.machine.now c.args.sessions.now.items c.args.weight.now c.args.conn none) refl

pub returns-in_default-set_aside-clause-resumed : goal.returns-in_default-set_aside-clause-resumed
returns-in_default-set_aside-clause-resumed g c =
    let before = table_of c.args.machine.now c.args.sessions.now.items c.args.weight.now in
    let none = sym (c.in_default-set_aside.ensures.later c.args.machine.now c.args.weight.now) in
    none_resumed _ _ c.args.call.now.view.now (machine_of c.args.machine.now) before c.args.conn _ _ none (c.in_default-set_aside.ensures.table c.args.machine.now c.args.weight.now ∙ none_aside before c.args.conn none)

pub run-requires-clause-opened : goal.run-requires-clause-opened
run-requires-clause-opened g c =
    opened_aside (table_of c.args.machine.now c.args.sessions.now.items c.args.weight.now) (table_of c.args.machine.now c.set_aside.new.sessions.items c.args.weight.now) c.args.conn (later_named c.in-Some-set_aside.later)
    (c.in-Some-set_aside.ensures.later c.args.machine.now c.args.weight.now) (c.in-Some-set_aside.ensures.table c.args.machine.now c.args.weight.now) c.requires.opened

pub returns-in-Err-clause-failed : goal.returns-in-Err-clause-failed
returns-in-Err-clause-failed g c =
    let at : StandsAt c.args.conn c.args.sessions.now.items c.in-Some.place = subst (λ (ss : List Session). StandsAt c.args.conn ss c.in-Some.place) c.as_slice.ensures.value c.in-Some.ensures in
    given_back (table_of c.args.machine.now c.args.sessions.now.items c.args.weight.now) (table_of c.run.new.machine c.run.new.sessions.items c.run.new.weight) _ c.args.conn (later_named c.in-Some-set_aside.later)
    (c.in-Some-set_aside.ensures.later c.args.machine.now c.args.weight.now) (c.in-Err.ensures.failed ∙ c.set_aside.ensures.table c.args.machine.now c.args.weight.now)
    (is_there c.args.machine.now c.args.sessions.now.items c.args.weight.now c.args.conn c.in-Some.place c.requires.table.apart at) (c.put_back.ensures.table c.run.new.machine c.run.new.weight)
