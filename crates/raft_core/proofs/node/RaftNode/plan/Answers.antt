use Rattle.std.proofs.Common.{◌∙◌, refl, ap, subst}
use Rattle.raft_spec.specs.Log.{LogEnd}
use Rattle.raft_spec.specs.NodeValues.{NodeValue, node_of}
use Rattle.raft_log.specs.Places.{known_term}
use Rattle.raft_core.specs.contracts.node.RaftNode.{the_view}
use Rattle.raft_core.specs.Steps.{PlansFor}
use Rattle.raft_core.proofs.CutLogs.{plans_same}
use Rattle.raft_core.proofs.node.RaftNode.plan.Goals as goal

pub returns-clause-plan : goal.returns-clause-plan
returns-clause-plan c =
    subst (λ (h : NodeValue). PlansFor (node_of h) c.args.last c.plan.result) c.self.view_is
    (plans_same c.self.inside.log.first (the_view c.self.inside) c.args.last c.term_at.result c.plan.result refl c.self.invariant.0 (c.term_at.ensures ∙ ap (λ (e : LogEnd). known_term c.self.inside.log e.index) c.last.view_is) c.plan.ensures)
