use Rattle.std.proofs.Common.{arith}
use Rattle.client_connection.proofs.Counting.{size_within, sizes_more}
use Rattle.client_connection.proofs.connection.bytes_of_all.Goals as goal

pub bytes_of-count-requires : goal.bytes_of-count-requires
bytes_of-count-requires c =
    let within = size_within c.args.messages.now c.loop-message.message-index c.message-item.result c.loop-message-test.true c.message-item.is in
    omega (arith, within, c.requires)

pub overflow_add-count : goal.overflow_add-count
overflow_add-count c =
    let within = size_within c.args.messages.now c.loop-message.message-index c.message-item.result c.loop-message-test.true c.message-item.is in
    omega (arith, within, c.requires, c.loop-message.invariant, c.bytes_of-count.ensures)

pub loop-message-preserved : goal.loop-message-preserved
loop-message-preserved c =
    let more = sizes_more c.args.messages.now c.loop-message.message-index c.message-item.result c.loop-message-test.true c.message-item.is in
    omega (arith, more, c.loop-message.invariant, c.bytes_of-count.ensures)
