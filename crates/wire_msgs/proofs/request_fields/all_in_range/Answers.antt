use Rattle.wire_msgs.proofs.Listed.{range_done}
use Rattle.wire_msgs.proofs.request_fields.all_in_range.Goals as goal

pub returns : goal.returns
returns c = range_done c.args.values.now c.loop-value.value-index c.loop-value-test.false c.loop-value.invariant
