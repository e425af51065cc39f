use Rattle.std.proofs.Common.{[]}
use Rattle.std.proofs.lemmas.Result.{err_from_is_err_and}
use Rattle.raft_messages.specs.Servers.{more_servers_at}
use Rattle.raft_messages.proofs.ServerLoops.{servers_more, servers_end, servers_done}
use Rattle.raft_messages.proofs.configuration.servers.Goals as goal

pub returns-in_err-server : goal.returns-in_err-server
returns-in_err-server c =
    let p = err_from_is_err_and c.from_residual.result c.from_residual.ensures.1 in
    rw (p.1, p.2) (servers_end c.in_err-server.field-0.0 c.loop.servers.items c.args.count c.loop.counter c.loop.words (more_servers_at [] c.args.count c.args.words.now) c.loop-test.true (rw c.deref.ensures.value at c.in_err-server.ensures) c.loop.invariant)

pub loop-preserved : goal.loop-preserved
loop-preserved c =
    rw c.in_ok-push.ensures.items (servers_more c.loop.servers.items c.args.count c.loop.counter c.loop.words c.server.new.words c.in_ok-server.server (more_servers_at [] c.args.count c.args.words.now) c.loop-test.true (rw c.deref.ensures.value at c.in_ok-server.ensures) c.loop.invariant)

pub returns : goal.returns
returns c = servers_done c.loop.servers.items c.args.count c.loop.counter c.loop.words (more_servers_at [] c.args.count c.args.words.now) c.loop-test.false c.loop.invariant
