use Rattle.std.proofs.Common.{◌∙◌, sym, ap, subst}
use Rattle.std.specs.Prelude.{false, ◌&&◌}
use Rattle.raft_spec.specs.Node.{among, peers}
use Rattle.raft_spec.specs.NodeValues.{node_of}
use Rattle.raft_spec.specs.Replication.{on_ack}
use Rattle.raft_core.specs.Effects.{Does}
use Rattle.raft_core.proofs.VoteRules.{effects_are}
use Rattle.raft_core.proofs.LeaderRules.{ack_ignored, ack_bad}
use Rattle.raft_core.proofs.node.RaftNode.on_ack.Goals as goal

pub returns-then-not-leads : goal.returns-then-not-leads
returns-then-not-leads c =
    let h = c.args.self.now in
    effects_are h h (on_ack h.id (node_of h) c.args.from c.args.good c.args.index) c.says.result _ c.says.ensures (ack_ignored h c.args.from c.args.good c.args.index (ap (λ b. b && among (peers h.servers h.id) c.args.from) (sym c.leads.ensures ∙ c.if-not-leads.true)))

pub returns-then-not-contains : goal.returns-then-not-contains
returns-then-not-contains c =
    let h = c.args.self.now in
    let l = sym c.leads.ensures ∙ c.if-not-leads.false in
    let p = ap (λ xs. among xs c.args.from) (sym c.peers.ensures) ∙ sym c.contains.ensures ∙ c.if-not-contains.true in
    effects_are h h (on_ack h.id (node_of h) c.args.from c.args.good c.args.index) c.says-then-not-contains.result _ c.says-then-not-contains.ensures (ack_ignored h c.args.from c.args.good c.args.index (ap (λ b. b && among (peers h.servers h.id) c.args.from) l ∙ p))

pub returns-else-good : goal.returns-else-good
returns-else-good c =
    let h = c.args.self.now in
    let l = sym c.leads.ensures ∙ c.if-not-leads.false in
    let p = ap (λ xs. among xs c.args.from) (sym c.peers.ensures) ∙ sym c.contains.ensures ∙ c.if-not-contains.false in
    subst (λ g. Does h (on_ack h.id (node_of h) c.args.from g c.args.index) c.ack.new.self c.sends.result) (sym c.if-good.false)
    (effects_are h c.ack.new.self (on_ack h.id (node_of h) c.args.from false c.args.index) c.sends.result _ c.sends.ensures (ack_bad h c.ack.new.self c.args.from c.args.index l p c.ack.ensures.ids c.ack.ensures.rows c.ack.ensures.rest))
