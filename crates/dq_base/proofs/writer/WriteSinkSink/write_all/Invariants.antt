use Rattle.std.proofs.Common.{◌≤◌, length}
use Rattle.dq_base.proofs.ContentLaws.{AppendsUpTo}
use Rattle.dq_base.proofs.writer.WriteSinkSink.write_all.Given as goal

-- the count of faults did not fall so far, and the bytes were appended up to the rest
abbrev pub invariant-pieces : goal.invariant-pieces
invariant-pieces g l = (l.initial.self.faults ≤ l.self.faults) × AppendsUpTo l.initial.self.bytes l.self.bytes l.bytes l.rest

-- the bytes that are still to be written
abbrev pub decreases-pieces : goal.decreases-pieces
decreases-pieces g l = length l.rest
