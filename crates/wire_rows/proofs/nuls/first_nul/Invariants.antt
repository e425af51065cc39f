use Rattle.std.proofs.Common.{◌≡◌, drop}
use Rattle.wire_rows.specs.Nuls.{nul_from}
use Rattle.wire_rows.proofs.nuls.first_nul.Given as goal

abbrev pub invariant-loop-row : goal.invariant-loop-row
invariant-loop-row l = nul_from 0 l.rows ≡ nul_from l.row (drop l.row l.rows)
