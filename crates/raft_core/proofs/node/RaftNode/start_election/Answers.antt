use Rattle.std.proofs.Common.{◌∙◌, sym, ap}
use Rattle.raft_spec.specs.Elections.{start_election, grants_with}
use Rattle.raft_spec.specs.Node.{voters}
use Rattle.raft_spec.specs.NodeValues.{node_of}
use Rattle.raft_core.specs.Nodes.{told}
use Rattle.raft_core.proofs.VoteRules.{effects_are, if_ok, may_parts, does_stand, does_not_stand}
use Rattle.raft_core.proofs.node.RaftNode.start_election.Goals as goal

pub returns-then-not-may_stand : goal.returns-then-not-may_stand
returns-then-not-may_stand c =
    let h = c.args.self.now in
    effects_are h h (start_election (told h) h.id (node_of h) c.args.transfer) c.says.result _ c.says.ensures (does_not_stand h c.args.transfer (sym c.may_stand.ensures ∙ c.if-not-may_stand.true))

pub stand-requires-clause-term : goal.stand-requires-clause-term
stand-requires-clause-term c = (may_parts c.args.self.now (sym c.may_stand.ensures ∙ c.if-not-may_stand.false)).1

pub stand-requires-clause-voter : goal.stand-requires-clause-voter
stand-requires-clause-voter c = (may_parts c.args.self.now (sym c.may_stand.ensures ∙ c.if-not-may_stand.false)).0

pub returns : goal.returns
returns c =
    let h = c.args.self.now in
    let m = c.stand.new.self in
    let counted = c.count-won.ensures.node ∙ ap (λ x. record m { grants = grants_with (voters m.servers) m.grants x }) c.id-own.ensures in
    if_ok c.after_count.result _ _ c.after_count.ensures (λ e d. does_stand h m c.count-won.new.self c.after_count.new.self c.end-last.result c.args.transfer e (sym c.may_stand.ensures ∙ c.if-not-may_stand.false) c.stand.ensures c.end-last.ensures counted d)
