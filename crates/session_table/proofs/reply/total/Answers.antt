use Rattle.std.proofs.Common.{◌+◌, ap, ◌∙◌}
use Rattle.wire_rows.specs.Answering.{held}
use Rattle.session_table.proofs.Sizing.{part_more}
use Rattle.session_table.proofs.reply.total.Goals as goal

pub loop-part-preserved : goal.loop-part-preserved
loop-part-preserved c =
    c.saturating_add-size.ensures ∙ ap (λ n. held (c.loop-part.size + n)) c.len.ensures
    ∙ part_more c.args.parts.now c.loop-part.part-index c.loop-part.size c.part-item.result c.loop-part-test.true c.part-item.is c.loop-part.invariant
