use Rattle.std.proofs.Common.{◌∙◌, refl, sym, ap, subst, arith}
use Rattle.raft_spec.specs.Log.{LogEnd}
use Rattle.raft_spec.specs.NodeValues.{NodeValue, node_of}
use Rattle.raft_safety.proofs.AlikeRules.{Shape}
use Rattle.raft_core.specs.contracts.node.RaftNode.{the_view}
use Rattle.raft_core.proofs.TakenLogs.{agrees_below, agreeing_place}
use Rattle.raft_core.proofs.WholeLogs.{shape_of}
use Rattle.raft_core.proofs.node.RaftNode.agrees.Goals as goal

pub returns-then-prev-snapshot-clause-answer : goal.returns-then-prev-snapshot-clause-answer
returns-then-prev-snapshot-clause-answer c =
    let at = ap (λ (e : LogEnd). e.index) c.prev.view_is in
    let end = ap (λ (e : LogEnd). e.index) (c.snapshot.view_is ∙ c.snapshot-snapshot.ensures) in
    agrees_below (node_of c.args.self.now) c.args.prev (omega arith)

pub returns-then-prev-snapshot-clause-place : goal.returns-then-prev-snapshot-clause-place
returns-then-prev-snapshot-clause-place c = λ t.
    let at = ap (λ (e : LogEnd). e.index) c.prev.view_is in
    let end = ap (λ (e : LogEnd). e.index) (c.snapshot.view_is ∙ c.snapshot-snapshot.ensures) in
    let shape : Shape (node_of c.args.self.now) = subst (λ (h : NodeValue). Shape (node_of h)) c.self.view_is (shape_of c.self.inside.log.first (the_view c.self.inside) refl c.self.invariant.0) in
    agreeing_place (node_of c.args.self.now) c.args.prev shape (sym (agrees_below (node_of c.args.self.now) c.args.prev (omega arith)))

pub returns-clause-place : goal.returns-clause-place
returns-clause-place c = λ t.
    let shape : Shape (node_of c.args.self.now) = subst (λ (h : NodeValue). Shape (node_of h)) c.self.view_is (shape_of c.self.inside.log.first (the_view c.self.inside) refl c.self.invariant.0) in
    agreeing_place (node_of c.args.self.now) c.args.prev shape (sym c.has_place.ensures ∙ t)
