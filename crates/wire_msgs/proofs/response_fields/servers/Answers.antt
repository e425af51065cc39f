use Rattle.std.proofs.Common.{List, ℕ, ◌++◌, ap, ◌∙◌}
use Rattle.wire_msgs.specs.Fields.{body_bytes}
use Rattle.wire_msgs.specs.Responses.{server_fields}
use Rattle.wire_msgs.proofs.Listed.{item_spelled, item_written, item_fits}
use Rattle.wire_msgs.proofs.response_fields.servers.Goals as goal

pub server-requires : goal.server-requires
server-requires c = (item_spelled server_fields c.args.servers.now c.loop-item.item-index c.item-item.result c.requires c.loop-item-test.true c.item-item.is).1.0

pub loop-item-preserved : goal.loop-item-preserved
loop-item-preserved c = record {
  written =
      c.in_ok-server.ensures.bytes ∙ ap (λ (b : List ℕ). b ++ body_bytes (server_fields c.item-item.result)) c.loop-item.invariant.written
      ∙ item_written server_fields c.args.out.now c.args.servers.now c.loop-item.item-index c.item-item.result c.loop-item-test.true c.item-item.is;
  fit = item_fits server_fields c.args.servers.now c.loop-item.item-index c.item-item.result c.loop-item-test.true c.item-item.is c.loop-item.invariant.fit c.in_ok-server.ensures.fit;
}
