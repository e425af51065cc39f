use Rattle.node_core.proofs.CoreMoves.{gave}
use Rattle.std.proofs.Common.{refl}
use Rattle.node_core.proofs.Going.{more_due}
use Rattle.node_core.proofs.running.Running.give.Goals as goal

pub returns-clause-going : goal.returns-clause-going
returns-clause-going c = more_due c.args.self.now _ c.args.event c.requires.going c.requires.due c.in_ok-push_back.ensures.items refl

pub returns-clause-exact : goal.returns-clause-exact
returns-clause-exact c = gave c.args.self.now (record c.args.self.now { due = c.push_back.new.self }) c.args.event c.in_ok-push_back.ensures.items refl
