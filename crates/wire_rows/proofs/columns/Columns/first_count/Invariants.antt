use Rattle.std.proofs.Common.{◌≡◌, ◌<◌, ◌≤◌}
use Rattle.wire_rows.specs.Answering.{held}
use Rattle.wire_rows.proofs.Greedy.{size_with}
use Rattle.wire_rows.proofs.columns.Columns.first_count.Given as goal

abbrev pub invariant-loop-count : goal.invariant-loop-count
invariant-loop-count l = (l.size ≡ held (size_with l.self.names.now l.rows l.count)) × (0 < l.count → l.size ≤ 65536)
