use Rattle.std.proofs.Common.{◌≡◌, ◌≤◌, ◌∙◌, refl, ap, subst, arith}
use Rattle.std.specs.Prelude.{◌&&◌, nat_lt, nat_le}
use Rattle.raft_spec.specs.Log.{first_replaced}
use Rattle.raft_spec.specs.NodeValues.{NodeValue, node_of}
use Rattle.raft_core.specs.contracts.node.RaftNode.{the_view}
use Rattle.raft_core.proofs.TakenLogs.{replaced_same}
use Rattle.raft_core.proofs.node.RaftNode.replaces_committed.Goals as goal

pub returns : goal.returns
returns c =
    let e = ap (λ (h : NodeValue). h.snapshot.index) c.self.view_is in
    let r = c.requires.low in
    let low : c.self.inside.snapshot.index ≤ c.args.place = omega arith in
    subst (λ (h : NodeValue). c.replaces.result ≡ (nat_lt 0 (first_replaced (node_of h).log c.args.place c.args.coming.now) && nat_le (first_replaced (node_of h).log c.args.place c.args.coming.now) h.commit)) c.self.view_is
    (c.replaces.ensures ∙ ap (λ f. nat_lt 0 f && nat_le f c.self.inside.commit) (replaced_same c.self.inside.log.first (the_view c.self.inside) c.args.place c.args.coming.now refl c.self.invariant.0 low))
