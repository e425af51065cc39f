use Rattle.std.proofs.Common.{◌∙◌, sym, ap}
use Rattle.std.specs.Prelude.{◌&&◌}
use Rattle.raft_spec.specs.Node.{is_candidate}
use Rattle.raft_spec.specs.NodeValues.{node_of}
use Rattle.raft_spec.specs.Elections.{on_vote}
use Rattle.raft_core.specs.Nodes.{told}
use Rattle.raft_core.proofs.VoteRules.{effects_are, if_ok, does_count, does_not_count}
use Rattle.raft_core.proofs.node.RaftNode.on_vote.Goals as goal

pub returns-then-not-granted : goal.returns-then-not-granted
returns-then-not-granted c =
    let h = c.args.self.now in
    effects_are h h (on_vote (told h) h.id (node_of h) c.args.from c.args.granted) c.says.result _ c.says.ensures (does_not_count h c.args.from c.args.granted (ap (λ b. b && is_candidate h.role) (c.if-not-granted.true)))

pub returns-then-not-stands : goal.returns-then-not-stands
returns-then-not-stands c =
    let h = c.args.self.now in
    effects_are h h (on_vote (told h) h.id (node_of h) c.args.from c.args.granted) c.says-then-not-stands.result _ c.says-then-not-stands.ensures (does_not_count h c.args.from c.args.granted (ap (λ b. b && is_candidate h.role) (c.if-not-granted.false) ∙ sym c.stands.ensures ∙ c.if-not-stands.true))

pub returns : goal.returns
returns c =
    let h = c.args.self.now in
    if_ok c.after_count.result _ _ c.after_count.ensures (λ e d. does_count h c.count-won.new.self c.after_count.new.self c.args.from c.args.granted e (ap (λ b. b && is_candidate h.role) (c.if-not-granted.false) ∙ sym c.stands.ensures ∙ c.if-not-stands.false) c.count-won.ensures.node d)
