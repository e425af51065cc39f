use Rattle.std.proofs.Common.{◌≡◌, drop, false}
use Rattle.sql_scan.specs.Lengths.{starred}
use Rattle.sql_scan.proofs.Closing.{further}
use Rattle.sql_scan.proofs.lengths.comment_length.Given as goal

abbrev pub invariant-loop-i : goal.invariant-loop-i
invariant-loop-i l = further l.i (starred l.star (drop l.i l.bytes)) ≡ starred false l.bytes
