use Rattle.std.proofs.Common.{◌-◌, length}
use Rattle.store_format.specs.Batches.{batch_in}
use Rattle.store_format.proofs.Runs.{Came}
use Rattle.store_format.proofs.segment.take_batches.Given as goal

abbrev pub invariant-batches : goal.invariant-batches
invariant-batches l = Came (batch_in l.format) l.bytes l.initial.log l.log l.place

abbrev pub decreases-batches : goal.decreases-batches
decreases-batches l = length l.bytes - l.place
