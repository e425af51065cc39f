use Rattle.std.proofs.Common.{◌≡◌, ◌<◌, ◌∙◌, refl, ap, subst, arith}
use Rattle.raft_spec.specs.Compaction.{meets}
use Rattle.raft_spec.specs.NodeValues.{NodeValue, node_of}
use Rattle.raft_spec.specs.Replication.{agrees}
use Rattle.raft_core.specs.contracts.node.RaftNode.{the_view}
use Rattle.raft_core.proofs.TakenLogs.{agrees_same}
use Rattle.raft_core.proofs.node.RaftNode.has_place.Goals as goal

pub returns : goal.returns
returns c =
    let v : NodeValue = the_view c.self.inside in
    let past : v.snapshot.index < c.args.prev.index = let e = ap (λ (h : NodeValue). h.snapshot.index) c.self.view_is in let r = c.requires in omega arith in
    subst (λ (h : NodeValue). c.matches.result ≡ agrees (node_of h) c.args.prev) c.self.view_is
    (c.matches.ensures ∙ ap (meets c.self.inside.log) c.prev.view_is ∙ agrees_same c.self.inside.log.first v c.args.prev refl c.self.invariant.0 past)
