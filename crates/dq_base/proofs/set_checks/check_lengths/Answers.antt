use Rattle.std.proofs.Common.{sym, ◌∙◌}
use Rattle.dq_base.specs.Applying.{length_fault}
use Rattle.dq_base.proofs.Steps.{length_refused, length_more, length_all}
use Rattle.dq_base.proofs.set_checks.check_lengths.Goals as goal

pub returns-then-is_past_end : goal.returns-then-is_past_end
returns-then-is_past_end c =
    length_refused c.args.lengths.main c.args.lengths.side c.loop-page.page-index c.args.front.now c.page-item.result (length_fault c.args.lengths.main c.args.lengths.side c.args.front.now) c.loop-page-test.true c.page-item.is
    (sym c.is_past_end.ensures ∙ c.if-is_past_end.true) c.loop-page.invariant

pub loop-page-preserved : goal.loop-page-preserved
loop-page-preserved c =
    length_more c.args.lengths.main c.args.lengths.side c.loop-page.page-index c.args.front.now c.page-item.result (length_fault c.args.lengths.main c.args.lengths.side c.args.front.now) c.loop-page-test.true c.page-item.is
    (sym c.is_past_end.ensures ∙ c.if-is_past_end.false) c.loop-page.invariant

pub returns : goal.returns
returns c = length_all c.args.lengths.main c.args.lengths.side c.loop-page.page-index c.args.front.now (length_fault c.args.lengths.main c.args.lengths.side c.args.front.now) c.loop-page-test.false c.loop-page.invariant
