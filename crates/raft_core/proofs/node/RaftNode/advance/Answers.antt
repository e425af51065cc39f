use Rattle.std.proofs.Common.{◌∙◌, refl, ap}
use Rattle.raft_spec.specs.Commitment.{commit_index}
use Rattle.raft_spec.specs.Compaction.{whole_log}
use Rattle.raft_spec.specs.Progress.{commit_of}
use Rattle.raft_spec.specs.NodeValues.{NodeValue, node_of}
use Rattle.raft_core.specs.contracts.node.RaftNode.{the_view}
use Rattle.raft_core.specs.Nodes.{told}
use Rattle.raft_core.proofs.FinishRules.{commit_same, advanced_log}
use Rattle.raft_core.proofs.node.RaftNode.advance.Goals as goal

pub invariant_of-self : goal.invariant_of-self
invariant_of-self c =
    let v : NodeValue = the_view c.self.inside in
    let m = c.self.invariant.1 in
    let is = c.commit_index-commit.ensures ∙ ap (λ t. commit_of c.self.inside.progress (whole_log c.self.inside.log) t v.commit) c.term-term.ensures ∙ commit_same c.self.inside.log.first v c.self.inside.progress refl c.self.invariant.0 m.own m.counted refl in
    (advanced_log c.self.inside.log.first v c.commit_index-commit.result refl c.self.invariant.0 is, m, c.self.invariant.2)

pub returns-clause-node : goal.returns-clause-node
returns-clause-node c =
    let v : NodeValue = the_view c.self.inside in
    let m = c.self.invariant.1 in
    let is = c.commit_index-commit.ensures ∙ ap (λ t. commit_of c.self.inside.progress (whole_log c.self.inside.log) t v.commit) c.term-term.ensures ∙ commit_same c.self.inside.log.first v c.self.inside.progress refl c.self.invariant.0 m.own m.counted refl in
    ap (λ n. record v { commit = n }) is ∙ ap (λ (h : NodeValue). record h { commit = commit_index (told h) h.id (node_of h) }) c.self.view_is
