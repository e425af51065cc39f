use Rattle.std.proofs.Common.{◌∙◌, sym, ap}
use Rattle.std.specs.Prelude.{◌&&◌, ◌==◌, not}
use Rattle.std.proofs.lemmas.Bool.{eq-eqb, ne_eqb}
use Rattle.raft_spec.specs.NodeValues.{node_of}
use Rattle.raft_spec.specs.Replication.{on_transfer}
use Rattle.raft_core.proofs.VoteRules.{effects_are}
use Rattle.raft_core.proofs.LeaderRules.{transfer_says, transfer_ignored}
use Rattle.raft_core.proofs.node.RaftNode.transfer.Goals as goal

pub returns-then-not-leads : goal.returns-then-not-leads
returns-then-not-leads c =
    let h = c.args.self.now in
    effects_are h h (on_transfer h.id (node_of h) c.args.to) c.says.result _ c.says.ensures (transfer_ignored h c.args.to (ap (λ b. b && not (c.args.to == h.id)) (sym c.leads.ensures ∙ c.if-not-leads.true)))

pub returns-then-to-id : goal.returns-then-to-id
returns-then-to-id c =
    let h = c.args.self.now in
    let l = sym c.leads.ensures ∙ c.if-not-leads.false in
    effects_are h h (on_transfer h.id (node_of h) c.args.to) c.says-then-to-id.result _ c.says-then-to-id.ensures (transfer_ignored h c.args.to (ap (λ b. b && not (c.args.to == h.id)) l ∙ ap not (eq-eqb c.args.to h.id (c.if-to-id.true ∙ c.id.ensures))))

pub returns : goal.returns
returns c =
    let h = c.args.self.now in
    let l = sym c.leads.ensures ∙ c.if-not-leads.false in
    effects_are h h (on_transfer h.id (node_of h) c.args.to) c.says-2.result _ c.says-2.ensures (transfer_says h c.args.to (ap (λ b. b && not (c.args.to == h.id)) l ∙ ap not (ne_eqb c.args.to h.id (λ e. c.if-to-id.false (e ∙ sym c.id.ensures)))))
