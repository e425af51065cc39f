use Rattle.node_core.proofs.RaftExactly.{due_none, due_some, none_left}
use Rattle.std.proofs.Common.{◌≡◌, [], refl, sym, ◌∙◌}
use Rattle.node_core.proofs.Finding.{failed}
use Rattle.node_core.proofs.running.Running.take_due.Goals as goal

pub returns-clause-goes : goal.returns-clause-goes
returns-clause-goes g c = λ more. c.in_ok-step_own.ensures.goes c.args.self.now (record { first = c.in-Some.ensures.items; is = refl })

pub returns-in_err-step_own-clause-stops : goal.returns-in_err-step_own-clause-stops
returns-in_err-step_own-clause-stops g c = λ opening came has.
    failed c.from_residual.result (c.in_err-step_own.ensures.stops c.args.self.now opening came (record { first = c.in-Some.ensures.items; is = refl }) has)

pub returns-clause-exact : goal.returns-clause-exact
returns-clause-exact g c = due_some c.args.self.now (record c.args.self.now { due = c.pop_front.new.self }) c.step_own.new.self c.in-Some.event c.in-Some.ensures.items refl c.in_ok-step_own.ensures.exact

pub returns-in_default-clause-exact : goal.returns-in_default-clause-exact
returns-in_default-clause-exact g c =
    let none : c.args.self.now.due.items ≡ [] = none_left c.args.self.now.due.items c.pop_front.new.self.items c.in_default.ensures.items c.in_default.ensures.rest in
    due_none c.args.self.now (record c.args.self.now { due = c.pop_front.new.self }) none refl (sym c.in_default.ensures.items ∙ none)
