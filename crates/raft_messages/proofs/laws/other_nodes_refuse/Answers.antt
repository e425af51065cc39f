use Rattle.raft_messages.proofs.MessageLaws.{others_refuse, far_refuse}
use Rattle.raft_messages.proofs.laws.other_nodes_refuse.Goals as goal

pub returns-clause-others : goal.returns-clause-others
returns-clause-others c = others_refuse

pub returns-clause-far : goal.returns-clause-far
returns-clause-far c = far_refuse
