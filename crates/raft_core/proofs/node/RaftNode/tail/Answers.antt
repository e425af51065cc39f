use Rattle.std.proofs.Common.{◌≤◌, ◌-◌, ◌∙◌, drop, sym, ap, arith}
use Rattle.raft_spec.specs.NodeValues.{NodeValue}
use Rattle.raft_core.proofs.TakenLogs.{rest_of}
use Rattle.raft_core.proofs.node.RaftNode.tail.Goals as goal

pub returns : goal.returns
returns c =
    let h = c.args.self.now in
    let past = c.requires in
    let low : h.base ≤ c.args.first - 1 = omega arith in
    c.tail.ensures ∙ ap (λ (v : NodeValue). drop (c.args.first - 1 - v.base) v.entries) c.self.view_is ∙ sym (rest_of h (c.args.first - 1) low)
