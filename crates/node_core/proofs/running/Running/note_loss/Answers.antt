use Rattle.std.proofs.Common.{sym, ◌∙◌}
use Rattle.std.proofs.lemmas.Result.{on_ok_weaker}
use Rattle.node_core.proofs.RaftExactly.{lost_not, lost_so}
use Rattle.node_core.proofs.running.Running.note_loss.Goals as goal

pub returns-then-not-has_lost-clause-exact : goal.returns-then-not-has_lost-clause-exact
returns-then-not-has_lost-clause-exact c = lost_not c.args.self.now (sym c.has_lost.ensures.is ∙ c.if-not-has_lost.true)

pub returns-clause-exact : goal.returns-clause-exact
returns-clause-exact c =
    on_ok_weaker c.lose.result (λ lost. lost_so c.args.self.now c.leave_office.new.self c.lose.new.self (sym c.has_lost.ensures.is ∙ c.if-not-has_lost.false) c.leave_office.ensures lost) c.lose.ensures.exact
