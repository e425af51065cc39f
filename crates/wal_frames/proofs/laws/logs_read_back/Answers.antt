use Rattle.wal_frames.proofs.LogLaws.{length-log, whole_log_valid, cut_log_valid}
use Rattle.wal_frames.proofs.laws.logs_read_back.Goals as goal

pub returns : goal.returns
returns c = record { length = length-log; whole = whole_log_valid; cut = cut_log_valid }
