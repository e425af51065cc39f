use Rattle.std.proofs.Common.{arith, length}
use Rattle.raft_spec.specs.Node.{voters}
use Rattle.raft_messages.proofs.ServerLoops.{voters_step, voters_all}
use Rattle.raft_messages.proofs.configuration.voter_count.Goals as goal

pub loop-server-preserved : goal.loop-server-preserved
loop-server-preserved c =
    let ss = c.args.servers.now in
    record {
      counted = voters_step ss c.loop-server.server-index c.loop-server.count c.server-item.result c.vote_of-count.result (length (voters ss)) c.loop-server-test.true c.server-item.is c.vote_of-count.ensures.vote c.loop-server.invariant.counted;
      few = omega (arith, c.vote_of-count.ensures.few, c.loop-server.invariant.few);
    }

pub returns : goal.returns
returns c =
    let ss = c.args.servers.now in
    voters_all ss c.loop-server.server-index c.loop-server.count (length (voters ss)) c.loop-server-test.false c.loop-server.invariant.counted
