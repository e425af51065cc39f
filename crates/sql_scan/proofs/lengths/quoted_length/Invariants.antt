use Rattle.std.proofs.Common.{◌≡◌, drop, false}
use Rattle.sql_scan.specs.Lengths.{quoted}
use Rattle.sql_scan.proofs.Closing.{further}
use Rattle.sql_scan.proofs.lengths.quoted_length.Given as goal

abbrev pub invariant-loop-i : goal.invariant-loop-i
invariant-loop-i l = further l.i (quoted l.quote l.odd (drop l.i l.bytes)) ≡ quoted l.quote false l.bytes
