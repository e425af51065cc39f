use Rattle.std.proofs.Common.{◌≡◌, ◌∙◌, refl, sym, subst}
use Rattle.std.specs.Prelude.{false}
use Rattle.raft_spec.specs.NodeValues.{NodeValue}
use Rattle.raft_core.specs.contracts.node.RaftNode.{the_view}
use Rattle.raft_core.specs.Queries.{forgets_at, known_at}
use Rattle.raft_core.proofs.QueryRules.{known_same}
use Rattle.raft_core.proofs.node.RaftNode.term_at.Goals as goal

pub returns : goal.returns
returns c =
    let kept = subst (λ (h : NodeValue). forgets_at h c.args.index ≡ false) (sym c.self.view_is) (sym c.forgets.ensures ∙ c.if-forgets.false) in
    subst (λ (h : NodeValue). c.term_at.result ≡ known_at h c.args.index) c.self.view_is (c.term_at.ensures ∙ known_same c.self.inside.log.first (the_view c.self.inside) c.args.index refl c.self.invariant.0 kept)
