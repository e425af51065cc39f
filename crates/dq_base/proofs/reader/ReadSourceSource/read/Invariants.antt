use Rattle.std.proofs.Common.{◌≤◌}
use Rattle.std.specs.Io.KnownBytes.{Keeps}
use Rattle.dq_base.proofs.reader.ReadSourceSource.read.Given as goal

-- the count of faults did not fall so far, and no byte moved
abbrev pub invariant-tries : goal.invariant-tries
invariant-tries g l = (l.initial.self.faults ≤ l.self.faults) × Keeps l.initial.self.bytes l.self.bytes
