use Rattle.std.proofs.lemmas.Result.{err_from_is_err_and}
use Rattle.wire_rows.specs.Reading.{names_at}
use Rattle.wire_rows.proofs.ReadLoops.{names_more, names_end, names_done}
use Rattle.wire_rows.proofs.reading.names.Goals as goal

pub returns-in_err-name : goal.returns-in_err-name
returns-in_err-name c =
    let p = err_from_is_err_and c.from_residual.result c.from_residual.ensures.1 in
    rw (p.1, p.2) (names_end c.in_err-name.field-0.0 c.loop.names.items c.args.count c.loop.counter c.loop.words (names_at c.args.count c.args.words.now) c.loop-test.true c.in_err-name.ensures.exact.1 c.loop.invariant)

pub loop-preserved : goal.loop-preserved
loop-preserved c =
    rw c.in_ok-push.ensures.items (names_more c.loop.names.items c.args.count c.loop.counter c.loop.words c.text.new.self c.in_ok-name.name (names_at c.args.count c.args.words.now) c.loop-test.true c.in_ok-name.ensures.exact c.loop.invariant)

pub returns : goal.returns
returns c = names_done c.loop.names.items c.args.count c.loop.counter c.loop.words (names_at c.args.count c.args.words.now) c.loop-test.false c.loop.invariant
