use Rattle.std.proofs.Common.{◌++◌}
use Rattle.raft_messages.specs.Servers.{each_bytes, IsServer, HoldsServer}
use Rattle.raft_messages.proofs.ServerLoops.{each_written, each_held, each_from}
use Rattle.raft_messages.proofs.configuration.put_servers.Goals as goal

pub put_server-requires : goal.put_server-requires
put_server-requires c = (each_from IsServer c.args.servers.now c.loop-server.server-index c.server-item.result c.loop-server-test.true c.server-item.is c.loop-server.invariant.left).0

pub loop-server-preserved : goal.loop-server-preserved
loop-server-preserved c =
    let ss = c.args.servers.now in
    let i = c.loop-server.server-index in
    let s = c.server-item.result in
    record {
      bytes = each_written ss i s c.loop-server.out c.put_server.new.out (c.args.out.now ++ each_bytes ss) c.loop-server-test.true c.server-item.is c.in_ok-put_server.ensures.bytes c.loop-server.invariant.bytes;
      holds = each_held HoldsServer ss i s c.loop-server-test.true c.server-item.is c.in_ok-put_server.ensures.holds c.loop-server.invariant.holds;
      left = (each_from IsServer ss i s c.loop-server-test.true c.server-item.is c.loop-server.invariant.left).1;
    }
