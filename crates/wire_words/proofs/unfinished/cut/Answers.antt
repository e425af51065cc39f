use Rattle.std.proofs.Common.{sym, ◌∙◌, [], arith}
use Rattle.wire_words.specs.Stream.{message_with}
use Rattle.wire_words.proofs.Cutting.{short_front, whole_shorter}
use Rattle.wire_words.proofs.Leading.{cut_part, cut_long, cut_more}
use Rattle.wire_words.proofs.unfinished.cut.Goals as goal

pub returns-in-Part-clause-ends : goal.returns-in-Part-clause-ends
returns-in-Part-clause-ends c =
    sym c.loop-words.invariant ∙ cut_part c.args.limit c.loop-words.messages.items c.loop-words.rest.now (sym c.in-Part.ensures)

pub returns-in-Long-clause-ends : goal.returns-in-Long-clause-ends
returns-in-Long-clause-ends c =
    sym c.loop-words.invariant ∙ cut_long c.args.limit c.loop-words.messages.items c.loop-words.rest.now c.in-Long.words (sym c.in-Long.ensures)

pub returns-in-Long-clause-part : goal.returns-in-Long-clause-part
returns-in-Long-clause-part c = short_front c.args.limit [] (omega arith)

pub loop-words-smaller : goal.loop-words-smaller
loop-words-smaller c =
    omega (arith, whole_shorter c.args.limit c.loop-words.rest.now (message_with c.in-Whole.header c.in-Whole.body.now) c.in-Whole.behind.now (sym c.in-Whole.ensures))

pub loop-words-preserved : goal.loop-words-preserved
loop-words-preserved c =
    rw (c.in_ok-push-in-Whole.ensures.items, c.new.ensures, c.in_ok-body-in-Whole.ensures.items)
    (sym (cut_more c.args.limit c.loop-words.messages.items c.loop-words.rest.now c.in-Whole.behind.now (message_with c.in-Whole.header c.in-Whole.body.now) (sym c.in-Whole.ensures)) ∙ c.loop-words.invariant)
