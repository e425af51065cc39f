use Rattle.std.proofs.Common.{get_or, refl}
use Rattle.std.proofs.lemmas.Result.{err_from_is_err_and}
use Rattle.log_commands.specs.Reading.{pages_at}
use Rattle.log_commands.proofs.Loops.{pages_more, pages_end, pages_done}
use Rattle.log_commands.proofs.items.pages.Goals as goal

pub returns-in_err-page : goal.returns-in_err-page
returns-in_err-page c =
    let p = err_from_is_err_and c.from_residual.result c.from_residual.ensures.1 in
    rw (p.1, p.2) (pages_end c.in_err-page.field-0.0 c.loop-number.pages.items c.args.numbers.now c.loop-number.number-index (get_or c.args.numbers.now c.loop-number.number-index 0) c.loop-number.words (pages_at c.args.numbers.now c.args.words.now) c.loop-number-test.true refl c.in_err-page.ensures c.loop-number.invariant)

pub loop-number-preserved : goal.loop-number-preserved
loop-number-preserved c =
    rw c.in_ok-push.ensures.items (pages_more c.loop-number.pages.items c.args.numbers.now c.loop-number.number-index (get_or c.args.numbers.now c.loop-number.number-index 0) c.loop-number.words c.page.new.words c.in_ok-page.page (pages_at c.args.numbers.now c.args.words.now) c.loop-number-test.true refl c.in_ok-page.ensures c.loop-number.invariant)

pub returns : goal.returns
returns c = pages_done c.loop-number.pages.items c.args.numbers.now c.loop-number.number-index c.loop-number.words (pages_at c.args.numbers.now c.args.words.now) c.loop-number-test.false c.loop-number.invariant
