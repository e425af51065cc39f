use Rattle.std.proofs.Common.{◌≡◌, ◌+◌, ◌<◌, ◌^◌, length, drop}
use Rattle.wire_words.specs.Values.{values, row}
use Rattle.wire_rows.specs.Answering.{held}
use Rattle.wire_rows.proofs.sizes.row_size.Given as goal

abbrev pub invariant-loop-content : goal.invariant-loop-content
invariant-loop-content l = (held (l.size + length (values (drop l.content-index l.contents))) ≡ held (length (row l.contents))) × (l.size < 2 ^ 64)
