use Rattle.std.proofs.Common.{◌∙◌}
use Rattle.raft_core.proofs.MemberRules.{no_voters, voters_more}
use Rattle.node_core.proofs.changing.voters_of.Goals as goal

pub loop-server-init : goal.loop-server-init
loop-server-init c = c.new-ids.ensures.items ∙ no_voters

pub loop-server-preserved : goal.loop-server-preserved
loop-server-preserved c = voters_more c.args.servers.now c.loop-server.ids.items c.add_voter.new.ids.items c.loop-server.server-index c.server-item.result c.loop-server-test.true c.loop-server.invariant c.server-item.is c.in_ok-add_voter.ensures
