use Rattle.std.proofs.Common.{List, ℕ, ◌++◌, ap, ◌∙◌}
use Rattle.wire_msgs.specs.Fields.{body_bytes}
use Rattle.wire_msgs.specs.Responses.{file_fields}
use Rattle.wire_msgs.proofs.Listed.{item_spelled, item_written, item_fits}
use Rattle.wire_msgs.proofs.response_fields.files.Goals as goal

pub file-requires : goal.file-requires
file-requires c = (item_spelled file_fields c.args.files.now c.loop-item.item-index c.item-item.result c.requires c.loop-item-test.true c.item-item.is).0

pub loop-item-preserved : goal.loop-item-preserved
loop-item-preserved c = record {
  written =
      c.in_ok-file.ensures.bytes ∙ ap (λ (b : List ℕ). b ++ body_bytes (file_fields c.item-item.result)) c.loop-item.invariant.written
      ∙ item_written file_fields c.args.out.now c.args.files.now c.loop-item.item-index c.item-item.result c.loop-item-test.true c.item-item.is;
  fit = item_fits file_fields c.args.files.now c.loop-item.item-index c.item-item.result c.loop-item-test.true c.item-item.is c.loop-item.invariant.fit c.in_ok-file.ensures.fit;
}
