use Rattle.wire_rows.specs.declared.part.More.TheVariants.{Last, Follows}
use Rattle.wire_rows.specs.Cut.{cut, bodies, total_size}
use Rattle.wire_rows.specs.Answering.{held}
use Rattle.wire_rows.proofs.Cutting.{sum_at_end, sum_goes_on}
use Rattle.wire_rows.proofs.columns.Columns.total_size.Goals as goal

pub returns-then-is_empty : goal.returns-then-is_empty
returns-then-is_empty c =
    let names = c.args.self.now.names.now in
    sum_at_end names c.parts.left.now c.split.result.0.now c.split.result.1.now c.is_empty.result c.parts.total c.body_size.result c.saturating_add-total.result
    (held (total_size (bodies names (cut names c.args.rows.now)))) c.split.ensures.first c.split.ensures.rest c.is_empty.ensures c.if-is_empty.true c.saturating_add-total.ensures (c.body_size.ensures Last) c.parts.invariant

pub parts-preserved : goal.parts-preserved
parts-preserved c =
    let names = c.args.self.now.names.now in
    sum_goes_on names c.parts.left.now c.split.result.0.now c.split.result.1.now c.is_empty.result c.parts.total c.body_size.result c.saturating_add-total.result
    (held (total_size (bodies names (cut names c.args.rows.now)))) c.split.ensures.first c.split.ensures.rest c.is_empty.ensures c.if-is_empty.false c.saturating_add-total.ensures (c.body_size.ensures Follows) c.parts.invariant
