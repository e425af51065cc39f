use Rattle.wire_rows.specs.Cut.{first_count, cut, bodies}
use Rattle.wire_rows.proofs.Cutting.{bodies_go_on}
use Rattle.wire_rows.proofs.Spelled.{drop_writable}
use Rattle.wire_rows.proofs.writing.all_bodies.Goals as goal

pub parts-preserved : goal.parts-preserved
parts-preserved c =
    let names = c.args.columns.now.names.now in (
      bodies_go_on names c.parts.left.now c.split.result.0.now c.split.result.1.now c.is_empty.result c.parts.parts.items c.push-in-parts.new.self.items
          (bodies names (cut names c.args.rows.now)) c.in_ok-body-2.field-0 c.split.ensures.first c.split.ensures.rest c.is_empty.ensures c.if-is_empty.false c.in_ok-body-2.ensures c.in_ok-push-2.ensures.items c.parts.invariant.0,
      drop_writable (first_count names c.parts.left.now) c.parts.left.now c.split.result.1.now c.split.ensures.rest c.parts.invariant.1,
    )
