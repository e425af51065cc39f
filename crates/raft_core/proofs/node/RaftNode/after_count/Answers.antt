use Rattle.std.proofs.Common.{◌∙◌, sym, subst}
use Rattle.raft_spec.specs.NodeValues.{NodeValue, node_of}
use Rattle.raft_spec.specs.Elections.{on_grants}
use Rattle.raft_core.specs.declared.effects.Recipients.TheVariants as sent
use Rattle.raft_core.specs.declared.effects.LogChange.TheVariants as changes
use Rattle.raft_core.specs.Effects.{said, Does}
use Rattle.raft_core.specs.Nodes.{told}
use Rattle.raft_core.proofs.VoteRules.{effects_are, does_wait, does_lead, leads_with}
use Rattle.raft_core.proofs.node.RaftNode.after_count.Goals as goal

pub returns-then-not-won : goal.returns-then-not-won
returns-then-not-won c =
    let h = c.args.self.now in
    effects_are h h (on_grants (told h) h.id (node_of h) (said h c.args.say)) c.says.result _ c.says.ensures (does_wait h c.args.say (sym c.requires ∙ c.if-not-won.true))

pub returns : goal.returns
returns c =
    let h = c.args.self.now in
    let now = leads_with h c.lead.new.self c.push.new.self c.in_ok-barrier.barrier c.in_ok-first.first c.term.result c.lead.ensures c.term.ensures c.in_ok-barrier.ensures c.in_ok-push.ensures in
    subst (λ (m : NodeValue). Does h (on_grants (told h) h.id (node_of h) (said h c.args.say)) m (record { say = c.args.say; recipients = sent.Everyone; change = changes.From c.in_ok-first.first })) (sym now) (does_lead h c.in_ok-first.first c.args.say (sym c.requires ∙ c.if-not-won.false) c.in_ok-first.ensures.next c.in_ok-first.ensures.past)
