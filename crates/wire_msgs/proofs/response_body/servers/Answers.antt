use Rattle.std.proofs.lemmas.Result.{err_from_is_err_and}
use Rattle.wire_msgs.specs.Bodies.{many_at, server_at}
use Rattle.wire_msgs.proofs.Lists.{many_more, many_end, many_done}
use Rattle.wire_msgs.proofs.response_body.servers.Goals as goal

pub returns-in_err-server : goal.returns-in_err-server
returns-in_err-server c =
    let p = err_from_is_err_and c.from_residual.result c.from_residual.ensures.1 in
    rw (p.1, p.2) (many_end (server_at c.args.roles) c.in_err-server.field-0.0 c.loop.servers.items c.args.count c.loop.counter c.loop.words (many_at (server_at c.args.roles) c.args.count c.args.words.now) c.loop-test.true c.in_err-server.ensures c.loop.invariant)

pub loop-preserved : goal.loop-preserved
loop-preserved c =
    rw c.in_ok-push.ensures.items (many_more (server_at c.args.roles) c.loop.servers.items c.args.count c.loop.counter c.loop.words c.server.new.words c.in_ok-server.server (many_at (server_at c.args.roles) c.args.count c.args.words.now) c.loop-test.true c.in_ok-server.ensures c.loop.invariant)

pub returns : goal.returns
returns c = many_done (server_at c.args.roles) c.loop.servers.items c.args.count c.loop.counter c.loop.words (many_at (server_at c.args.roles) c.args.count c.args.words.now) c.loop-test.false c.loop.invariant
