use Rattle.std.proofs.Common.{◌≡◌, ◌+◌, ◌<◌, ◌^◌, length, drop}
use Rattle.wire_rows.specs.Spelling.{head_bytes, names_bytes}
use Rattle.wire_rows.specs.Answering.{held}
use Rattle.wire_rows.proofs.sizes.head_size.Given as goal

abbrev pub invariant-loop-name : goal.invariant-loop-name
invariant-loop-name l = (held (l.size + length (names_bytes (drop l.name-index l.columns))) ≡ held (length (head_bytes l.columns))) × (l.size < 2 ^ 64)
