use Rattle.std.proofs.Common.{◌∙◌, sym}
use Rattle.raft_core.specs.Effects.{recipients_value}
use Rattle.raft_core.proofs.FinishRules.{quiet_node, quiet_out, leader_node, leader_sends, effects_of}
use Rattle.raft_core.proofs.node.RaftNode.finish.Goals as goal

pub returns-then-not-leads-clause-node : goal.returns-then-not-leads-clause-node
returns-then-not-leads-clause-node c = quiet_node c.args.self.now (effects_of c.args.say c.args.recipients) (sym c.leads.ensures ∙ c.if-not-leads.true)

pub returns-then-not-leads-clause-sends : goal.returns-then-not-leads-clause-sends
returns-then-not-leads-clause-sends c = quiet_out c.args.self.now (effects_of c.args.say c.args.recipients) _ (sym c.leads.ensures ∙ c.if-not-leads.true) c.in_ok-out.ensures

pub returns-clause-node : goal.returns-clause-node
returns-clause-node c = leader_node c.args.self.now c.advance-moved.new.self (effects_of c.args.say c.args.recipients) (sym c.leads.ensures ∙ c.if-not-leads.false) c.advance-moved.ensures.node

pub returns-clause-sends : goal.returns-clause-sends
returns-clause-sends c = leader_sends c.args.self.now c.advance-moved.new.self (effects_of c.args.say c.args.recipients) c.in_ok-out.out.items c.send_to.new.out.items c.advance-moved.result (recipients_value c.recipients_where.result) (sym c.leads.ensures ∙ c.if-not-leads.false) c.advance-moved.ensures.node c.in_ok-out.ensures c.advance-moved.ensures.moved c.recipients_where.ensures c.in_ok-send_to.ensures
