use Rattle.std.proofs.Common.{◌∙◌, sym, ap, add-one, ℕ, suc, []}
use Rattle.raft_spec.specs.Node.{Follower}
use Rattle.raft_spec.specs.NodeValues.{NodeValue, node_of}
use Rattle.raft_spec.specs.Elections.{on_yield}
use Rattle.raft_core.proofs.VoteRules.{effects_are}
use Rattle.raft_core.proofs.LeaderRules.{yields_leadership, yield_ignored}
use Rattle.raft_core.proofs.node.RaftNode.give_up.Goals as goal

pub returns-then-may_yield : goal.returns-then-may_yield
returns-then-may_yield c =
    let h : NodeValue = c.args.self.now in
    effects_are h c.take_term.new.self (on_yield (node_of h)) c.says.result _ c.says.ensures
    (yields_leadership h c.take_term.new.self (sym c.may_yield.ensures ∙ c.if-may_yield.true)
    (c.take_term.ensures ∙ ap (λ (t : ℕ). record h { term = t; vote = 0; role = Follower; leader = 0; grants = [] }) (add-one c.term-next.result ∙ ap suc c.term-next.ensures)))

pub returns : goal.returns
returns c =
    effects_are c.args.self.now c.args.self.now (on_yield (node_of c.args.self.now)) c.says-2.result _ c.says-2.ensures
    (yield_ignored c.args.self.now (sym c.may_yield.ensures ∙ c.if-may_yield.false))
