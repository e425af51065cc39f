use Rattle.std.proofs.Common.{◌≡◌, drop}
use Rattle.dq_base.specs.Applying.{length_fault}
use Rattle.dq_base.proofs.set_checks.check_lengths.Given as goal

abbrev pub invariant-loop-page : goal.invariant-loop-page
invariant-loop-page l = length_fault l.lengths.main l.lengths.side (drop l.page-index l.front) ≡ length_fault l.lengths.main l.lengths.side l.front
