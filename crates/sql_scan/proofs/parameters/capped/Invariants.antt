use Rattle.std.proofs.Common.{◌≡◌, ◌≤◌, min, drop}
use Rattle.sql_scan.specs.Statements.{decimal}
use Rattle.sql_scan.proofs.parameters.capped.Given as goal

abbrev pub invariant-loop-digit : goal.invariant-loop-digit
invariant-loop-digit l = (min (decimal l.number (drop l.digit-index l.digits)) 32767 ≡ min (decimal 0 l.digits) 32767) × (l.number ≤ 32767)
