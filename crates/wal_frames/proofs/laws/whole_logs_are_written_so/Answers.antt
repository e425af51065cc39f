use Rattle.wal_frames.proofs.LogLaws.{whole_is_written}
use Rattle.wal_frames.proofs.laws.whole_logs_are_written_so.Goals as goal

pub returns : goal.returns
returns c = whole_is_written
