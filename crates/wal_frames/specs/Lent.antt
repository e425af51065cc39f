-- A frame whose page is borrowed.
use Rattle.wal_frames.specs.declared.frame.Frame.{Frame}
use Rattle.wal_frames.specs.declared.frame.LentFrame.{LentFrame}

-- the frame that it is, wherever its page stands
abbrev pub owned : LentFrame → Frame
owned f = record { number = f.number; commit = f.commit; page = f.page.now }
