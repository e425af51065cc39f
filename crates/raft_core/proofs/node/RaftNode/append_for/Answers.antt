use Rattle.std.proofs.Common.{◌∙◌, ◌-◌, take, drop, refl, sym, ap, subst, arith}
use Rattle.raft_spec.specs.Log.{term_at}
use Rattle.raft_spec.specs.Node.{Append}
use Rattle.raft_spec.specs.NodeValues.{NodeValue, node_of}
use Rattle.raft_safety.proofs.AlikeRules.{Shape}
use Rattle.raft_safety.proofs.AlikeSteps.{place_known}
use Rattle.raft_core.specs.contracts.node.RaftNode.{the_view}
use Rattle.raft_core.specs.Effects.{message_in}
use Rattle.raft_core.proofs.WholeLogs.{shape_of}
use Rattle.raft_core.proofs.TakenLogs.{rest_of}
use Rattle.raft_core.proofs.node.RaftNode.append_for.Goals as goal

pub log_term-requires-clause-past : goal.log_term-requires-clause-past
log_term-requires-clause-past c =
    let shape : Shape (node_of c.args.self.now) = subst (λ (h : NodeValue). Shape (node_of h)) c.self.view_is (shape_of c.self.inside.log.first (the_view c.self.inside) refl c.self.invariant.0) in
    let at = c.saturating_sub-index.ensures in
    let low = (place_known (node_of c.args.self.now) c.args.next shape c.requires).0 in
    omega arith

pub log_term-requires-clause-known : goal.log_term-requires-clause-known
log_term-requires-clause-known c =
    let shape : Shape (node_of c.args.self.now) = subst (λ (h : NodeValue). Shape (node_of h)) c.self.view_is (shape_of c.self.inside.log.first (the_view c.self.inside) refl c.self.invariant.0) in
    λ e. (place_known (node_of c.args.self.now) c.args.next shape c.requires).1 (sym c.saturating_sub-index.ensures ∙ e)

pub returns : goal.returns
returns c =
    let h = c.args.self.now in
    let shape : Shape (node_of h) = subst (λ (h : NodeValue). Shape (node_of h)) c.self.view_is (shape_of c.self.inside.log.first (the_view c.self.inside) refl c.self.invariant.0) in
    let at = c.saturating_sub-index.ensures in
    let low = (place_known (node_of h) c.args.next shape c.requires).0 in
    let term = c.log_term.ensures ∙ ap (term_at (node_of h).log) at in
    let entries = c.in_ok-entries.ensures ∙ ap (λ n. take 16 (drop (n - c.self.inside.log.first.index) c.self.inside.log.entries)) at ∙ ap (λ (v : NodeValue). take 16 (drop (c.args.next - 1 - v.base) v.entries)) c.self.view_is ∙ ap (take 16) (sym (rest_of h (c.args.next - 1) low)) in
    let commit = ap (λ (v : NodeValue). v.commit) c.self.view_is in
    λ k. message_in (c.id.ensures k) (c.term.ensures k) c.args.peer (Append (record { index = at k; term = term k }) (commit k) (entries k))
