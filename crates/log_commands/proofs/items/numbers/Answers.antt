use Rattle.std.proofs.lemmas.Result.{err_from_is_err_and}
use Rattle.log_commands.specs.Reading.{numbers_at}
use Rattle.log_commands.proofs.Loops.{numbers_more, numbers_end, numbers_done}
use Rattle.log_commands.proofs.items.numbers.Goals as goal

pub returns-in_err-number : goal.returns-in_err-number
returns-in_err-number c =
    let p = err_from_is_err_and c.from_residual.result c.from_residual.ensures.1 in
    rw (p.1, p.2) (numbers_end c.in_err-number.field-0.0 c.loop.numbers.items c.args.count c.loop.counter c.loop.words (numbers_at c.args.count c.args.words.now) c.loop-test.true c.in_err-number.ensures.exact.1 c.loop.invariant)

pub loop-preserved : goal.loop-preserved
loop-preserved c =
    rw c.in_ok-push.ensures.items (numbers_more c.loop.numbers.items c.args.count c.loop.counter c.loop.words c.u64.new.self c.in_ok-number.number (numbers_at c.args.count c.args.words.now) c.loop-test.true c.in_ok-number.ensures.exact c.loop.invariant)

pub returns : goal.returns
returns c = numbers_done c.loop.numbers.items c.args.count c.loop.counter c.loop.words (numbers_at c.args.count c.args.words.now) c.loop-test.false c.loop.invariant
