use Rattle.std.proofs.Common.{◌≡◌, ◌++◌}
use Rattle.raft_spec.specs.Outcomes.{with_term}
use Rattle.raft_core.proofs.node.RaftNode.append.Given as goal

abbrev pub invariant-loop-entry : goal.invariant-loop-entry
invariant-loop-entry l = l.self ≡ record l.initial.self { entries = l.initial.self.entries ++ with_term l.term l.yielded }
