use Rattle.std.proofs.Common.{◌∙◌}
use Rattle.raft_core.proofs.MemberRules.{no_peers, peers_more}
use Rattle.raft_core.proofs.membership.peer_ids.Goals as goal

pub loop-server-init : goal.loop-server-init
loop-server-init c = c.new-ids.ensures.items ∙ no_peers c.args.own

pub loop-server-preserved : goal.loop-server-preserved
loop-server-preserved c = peers_more c.args.servers.now c.loop-server.ids.items c.add_peer.new.ids.items c.loop-server.server-index c.args.own c.server-item.result c.loop-server-test.true c.loop-server.invariant c.server-item.is c.in_ok-add_peer.ensures
