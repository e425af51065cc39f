use Rattle.std.proofs.Common.{◌∙◌, sym}
use Rattle.raft_spec.specs.NodeValues.{node_of}
use Rattle.raft_spec.specs.Replication.{on_beat}
use Rattle.raft_core.proofs.VoteRules.{effects_are}
use Rattle.raft_core.proofs.LeaderRules.{beat_sends, beat_ignored}
use Rattle.raft_core.proofs.node.RaftNode.heartbeat.Goals as goal

pub returns-then-leads : goal.returns-then-leads
returns-then-leads c = effects_are c.args.self.now c.args.self.now (on_beat (node_of c.args.self.now)) c.sends.result _ c.sends.ensures (beat_sends c.args.self.now (sym c.leads.ensures ∙ c.if-leads.true))

pub returns : goal.returns
returns c = effects_are c.args.self.now c.args.self.now (on_beat (node_of c.args.self.now)) c.says.result _ c.says.ensures (beat_ignored c.args.self.now (sym c.leads.ensures ∙ c.if-leads.false))
