use Rattle.std.proofs.Common.{◌≡◌, take}
use Rattle.wire_rows.specs.Answering.{held}
use Rattle.wire_rows.specs.Cut.{total_size}
use Rattle.session_table.proofs.reply.total.Given as goal

abbrev pub invariant-loop-part : goal.invariant-loop-part
invariant-loop-part l = l.size ≡ held (total_size (take l.part-index l.parts))
