use Rattle.std.proofs.Common.{length}
use Rattle.wal_frames.specs.Valid.{TookAll}
use Rattle.wal_frames.proofs.reading.all_frames.Given as goal

-- the frames so far are those between where the reader stood and where it stands
abbrev pub invariant-frames : goal.invariant-frames
invariant-frames l = TookAll l.initial.reader l.frames.items l.reader

abbrev pub decreases-frames : goal.decreases-frames
decreases-frames l = length l.reader.rest
