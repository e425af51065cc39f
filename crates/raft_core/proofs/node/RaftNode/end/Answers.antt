use Rattle.std.proofs.Common.{◌≡◌, ◌∙◌, refl, subst}
use Rattle.raft_spec.specs.Log.{log_end}
use Rattle.raft_spec.specs.NodeValues.{NodeValue, node_of}
use Rattle.raft_core.specs.contracts.node.RaftNode.{the_view}
use Rattle.raft_core.proofs.WholeLogs.{ends_same}
use Rattle.raft_core.proofs.node.RaftNode.end.Goals as goal

pub returns : goal.returns
returns c = subst (λ (h : NodeValue). c.end.result ≡ log_end (node_of h).log) c.self.view_is (c.end.ensures ∙ ends_same c.self.inside.log.first (the_view c.self.inside) refl c.self.invariant.0)
