use Rattle.std.proofs.Common.{[], take}
use Rattle.wal_frames.specs.Writing.{Wrote}
use Rattle.wal_frames.proofs.writer.write_wal.Given as goal

-- the frames so far are written
abbrev pub invariant-loop-frame : goal.invariant-loop-frame
invariant-loop-frame l = Wrote [] l.sequence (take l.frame-index l.frames) l.out.items l.writer
