use Rattle.std.proofs.Common.{sym, arith}
use Rattle.log_commands.specs.Numbers.{numbers_ascend}
use Rattle.log_commands.proofs.Ascending.{is_next-low, is_next-one, is_next-high, is_next-true, ascend_more, ascend_refused, ascend_all}
use Rattle.log_commands.proofs.numbers.ascend.Goals as goal
use Rattle.log_commands.proofs.numbers.ascend.Goals.{then-number-least-via-then-number-least, then-number-least-via-else-number-least+then-number-eq1, then-number-least-via-else-number-least+else-number-eq1+then-number-from}

pub returns-then-number-least : goal.returns-then-number-least
returns-then-number-least c =
    let refused = ascend_refused c.loop-page.least c.loop-page.page-index c.args.pages.now c.page-item.result (numbers_ascend c.args.first c.args.pages.now) c.loop-page-test.true c.page-item.is in
    elim c.then-number-least.branch [
      | then-number-least-via-then-number-least w ↦ sym (refused (is_next-low c.loop-page.least c.page-item.result.number w.if-number-least.true) c.loop-page.invariant)
      | then-number-least-via-else-number-least+then-number-eq1 w ↦ sym (refused (is_next-one c.loop-page.least c.page-item.result.number w.if-number-eq1.true) c.loop-page.invariant)
      | then-number-least-via-else-number-least+else-number-eq1+then-number-from w ↦ sym (refused (is_next-high c.loop-page.least c.page-item.result.number (omega (arith, w.if-number-from.true, w.from.ensures))) c.loop-page.invariant)
    ]

pub loop-page-preserved : goal.loop-page-preserved
loop-page-preserved c =
    let next = is_next-true c.loop-page.least c.page-item.result.number c.if-number-least.false c.if-number-eq1.false (omega (arith, c.if-number-from.false, c.from.ensures)) in
    ascend_more c.loop-page.least c.loop-page.page-index c.args.pages.now c.page-item.result (numbers_ascend c.args.first c.args.pages.now) c.loop-page-test.true c.page-item.is next c.loop-page.invariant

pub returns : goal.returns
returns c = sym (ascend_all c.loop-page.least c.loop-page.page-index c.args.pages.now (numbers_ascend c.args.first c.args.pages.now) c.loop-page-test.false c.loop-page.invariant)
