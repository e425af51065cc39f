use Rattle.std.proofs.Common.{◌≡◌, ◌∙◌, suc, sym, ap, subst}
use Rattle.raft_spec.specs.NodeValues.{NodeValue, node_of}
use Rattle.raft_spec.specs.Snapshots.{needs_snapshot}
use Rattle.raft_core.specs.contracts.node.RaftNode.{the_view}
use Rattle.raft_core.proofs.CutLogs.{needs_same}
use Rattle.raft_core.proofs.node.RaftNode.needs_snapshot.Goals as goal

pub returns : goal.returns
returns c =
    let v : NodeValue = the_view c.self.inside in
    subst (λ (h : NodeValue). c.needs_snapshot.result ≡ needs_snapshot (node_of h) c.args.next) c.self.view_is
    (c.needs_snapshot.ensures ∙ needs_same v c.new.result c.args.next c.args.first c.new.ensures (c.requires ∙ ap (λ (h : NodeValue). suc h.base) (sym c.self.view_is)))
