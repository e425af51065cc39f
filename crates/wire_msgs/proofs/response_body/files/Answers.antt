use Rattle.std.proofs.lemmas.Result.{err_from_is_err_and}
use Rattle.wire_msgs.specs.Bodies.{many_at, file_at}
use Rattle.wire_msgs.proofs.Lists.{many_more, many_end, many_done}
use Rattle.wire_msgs.proofs.response_body.files.Goals as goal

pub returns-in_err-file : goal.returns-in_err-file
returns-in_err-file c =
    let p = err_from_is_err_and c.from_residual.result c.from_residual.ensures.1 in
    rw (p.1, p.2) (many_end file_at c.in_err-file.field-0.0 c.loop.files.items c.args.count c.loop.counter c.loop.words (many_at file_at c.args.count c.args.words.now) c.loop-test.true c.in_err-file.ensures c.loop.invariant)

pub loop-preserved : goal.loop-preserved
loop-preserved c =
    rw c.in_ok-push.ensures.items (many_more file_at c.loop.files.items c.args.count c.loop.counter c.loop.words c.file.new.words c.in_ok-file.file (many_at file_at c.args.count c.args.words.now) c.loop-test.true c.in_ok-file.ensures c.loop.invariant)

pub returns : goal.returns
returns c = many_done file_at c.loop.files.items c.args.count c.loop.counter c.loop.words (many_at file_at c.args.count c.args.words.now) c.loop-test.false c.loop.invariant
