use Rattle.std.proofs.Common.{◌≡◌, ◌++◌, length}
use Rattle.std.specs.List.{AllByRecursion}
use Rattle.wire_words.specs.Values.{AreWritable}
use Rattle.wire_rows.specs.Cut.{cut, bodies}
use Rattle.wire_rows.proofs.writing.all_bodies.Given as goal

abbrev pub invariant-parts : goal.invariant-parts
invariant-parts l = (l.parts.items ++ bodies l.columns.names.now (cut l.columns.names.now l.left) ≡ bodies l.columns.names.now (cut l.columns.names.now l.rows)) × AllByRecursion AreWritable l.left

abbrev pub decreases-parts : goal.decreases-parts
decreases-parts l = length l.left
