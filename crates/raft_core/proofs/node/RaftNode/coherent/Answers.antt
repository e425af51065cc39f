use Rattle.std.proofs.Common.{subst}
use Rattle.raft_spec.specs.NodeValues.{IsCoherent}
use Rattle.raft_core.proofs.node.RaftNode.coherent.Goals as goal

pub returns : goal.returns
returns c = subst IsCoherent c.self.view_is (record { low = c.self.invariant.0.low; applied = c.self.invariant.0.applied; within = c.self.invariant.0.within; rows = c.self.invariant.1.rows })
