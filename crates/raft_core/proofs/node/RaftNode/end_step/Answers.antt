use Rattle.std.proofs.Common.{◌∙◌, ap}
use Rattle.raft_core.specs.Messages.{sents_value}
use Rattle.raft_core.proofs.node.RaftNode.end_step.Goals as goal

pub returns-clause-sends : goal.returns-clause-sends
returns-clause-sends c = ap (sents_value c.args.self.now.id) c.todo.ensures.sends ∙ c.in_ok-sends.ensures.sends
