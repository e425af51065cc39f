use Rattle.std.proofs.Common.{◌≡◌, ◌+◌, length}
use Rattle.wire_rows.specs.Cut.{cut, bodies, total_size}
use Rattle.wire_rows.specs.Answering.{held}
use Rattle.wire_rows.proofs.columns.Columns.total_size.Given as goal

abbrev pub invariant-parts : goal.invariant-parts
invariant-parts l = held (l.total + total_size (bodies l.self.names.now (cut l.self.names.now l.left))) ≡ held (total_size (bodies l.self.names.now (cut l.self.names.now l.rows)))

abbrev pub decreases-parts : goal.decreases-parts
decreases-parts l = length l.left
