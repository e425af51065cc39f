use Rattle.std.proofs.Common.{◌≤◌, ◌+◌, length, take, arith}
use Rattle.raft_messages.specs.Entries.{contents_bytes}
use Rattle.store_format.proofs.SumPlaces.{contents_more}
use Rattle.store_format.proofs.batch_writing.room_for.Goals as goal

pub loop-entry-preserved : goal.loop-entry-preserved
loop-entry-preserved c =
    let es = c.args.entries.now in
    let i = c.loop-entry.entry-index in
    let more : length (contents_bytes (take (i + 1) es)) ≤ length (contents_bytes (take i es)) + length c.entry-item.result.bytes + 7 = contents_more es i c.entry-item.result c.loop-entry-test.true c.entry-item.is in
    omega (arith, more, c.loop-entry.invariant, c.content_size.ensures, c.saturating_add.ensures, c.saturating_add-room.ensures)
