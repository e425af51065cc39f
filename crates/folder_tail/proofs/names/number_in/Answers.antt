use Rattle.std.proofs.Common.{sym, ◌∙◌, arith}
use Rattle.segment_store.proofs.LoadNames.{digit_more, digit_none, digits_end}
use Rattle.folder_tail.proofs.names.number_in.Goals as goal

pub loop-digit-preserved : goal.loop-digit-preserved
loop-digit-preserved c = c.loop-digit.invariant ∙ digit_more c.loop-digit.number c.in-Some.more c.args.digits.now c.loop-digit.digit-index _ c.loop-digit-test.true (sym c.in-Some.is ∙ c.with_digit.ensures)

pub returns-in-None : goal.returns-in-None
returns-in-None c = sym (c.loop-digit.invariant ∙ digit_none c.loop-digit.number c.args.digits.now c.loop-digit.digit-index _ c.loop-digit-test.true (sym c.in-None.is ∙ c.with_digit.ensures))

pub returns : goal.returns
returns c = sym (c.loop-digit.invariant ∙ digits_end c.loop-digit.number c.args.digits.now c.loop-digit.digit-index (omega (arith, c.loop-digit-test.false)))
