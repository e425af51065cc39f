use Rattle.std.proofs.Common.{length}
use Rattle.database_state.specs.Restoring.{TookPages}
use Rattle.database_state.proofs.log_reading.pages_left.Given as goal

-- the pages so far are those of the frames between where the reader stood and where it stands
abbrev pub invariant-frames : goal.invariant-frames
invariant-frames l = TookPages l.initial.reader l.pages.items l.reader

abbrev pub decreases-frames : goal.decreases-frames
decreases-frames l = length l.reader.rest
