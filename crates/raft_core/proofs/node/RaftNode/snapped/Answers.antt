use Rattle.std.proofs.Common.{◌∙◌, ◌<◌, ◌≤◌, refl, ap, subst, arith}
use Rattle.std.specs.Prelude.{◌&&◌, nat_le}
use Rattle.std.proofs.lemmas.Bool.{le-ltb, lt-ltb, le-leb}
use Rattle.raft_spec.specs.Log.{LogEnd}
use Rattle.raft_spec.specs.NodeValues.{NodeValue, node_of}
use Rattle.raft_spec.specs.Snapshots.{on_snapped}
use Rattle.raft_safety.proofs.AlikeRules.{Shape}
use Rattle.raft_core.specs.contracts.node.RaftNode.{the_view}
use Rattle.raft_core.proofs.TakenLogs.{not_le}
use Rattle.raft_core.proofs.WholeLogs.{shape_of}
use Rattle.raft_core.proofs.EndRules.{ends_are, snapped_ignored, snapped_ends}
use Rattle.raft_core.proofs.node.RaftNode.snapped.Goals as goal

pub returns-then-index-snapshot-clause-outcome : goal.returns-then-index-snapshot-clause-outcome
returns-then-index-snapshot-clause-outcome c =
    let h = c.args.self.now in
    let end = ap (λ (e : LogEnd). e.index) (c.snapshot.view_is ∙ c.snapshot-snapshot.ensures) in
    let test = c.if-index-snapshot.true in
    ends_are h h (on_snapped (node_of h) c.args.index) c.says.result _ c.says.ensures (snapped_ignored h c.args.index (ap (λ b. b && nat_le c.args.index h.commit) (le-ltb h.snapshot.index c.args.index (omega arith))))

pub returns-then-commit-index-clause-outcome : goal.returns-then-commit-index-clause-outcome
returns-then-commit-index-clause-outcome c =
    let h = c.args.self.now in
    let end = ap (λ (e : LogEnd). e.index) (c.snapshot.view_is ∙ c.snapshot-snapshot.ensures) in
    let test = c.if-index-snapshot.false in
    let late = c.if-commit-index.true in
    let at = c.commit.ensures in
    ends_are h h (on_snapped (node_of h) c.args.index) c.says-then-commit-index.result _ c.says-then-commit-index.ensures (snapped_ignored h c.args.index (ap (λ b. b && nat_le c.args.index h.commit) (lt-ltb h.snapshot.index c.args.index (omega arith)) ∙ not_le c.args.index h.commit (omega arith)))

pub returns-clause-outcome : goal.returns-clause-outcome
returns-clause-outcome c =
    let h = c.args.self.now in
    let end = ap (λ (e : LogEnd). e.index) (c.snapshot.view_is ∙ c.snapshot-snapshot.ensures) in
    let test = c.if-index-snapshot.false in
    let late = c.if-commit-index.false in
    let at = c.commit.ensures in
    let newer : h.snapshot.index < c.args.index = omega arith in
    let applied : c.args.index ≤ h.commit = omega arith in
    let shape : Shape (node_of h) = subst (λ (h : NodeValue). Shape (node_of h)) c.self.view_is (shape_of c.self.inside.log.first (the_view c.self.inside) refl c.self.invariant.0) in
    ends_are h c.compact.new.self (on_snapped (node_of h) c.args.index) c.says-2.result _ c.says-2.ensures (snapped_ends h c.compact.new.self c.args.index shape (ap (λ b. b && nat_le c.args.index h.commit) (lt-ltb h.snapshot.index c.args.index newer) ∙ le-leb c.args.index h.commit applied) newer applied c.compact.ensures)
