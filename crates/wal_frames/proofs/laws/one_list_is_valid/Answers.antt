use Rattle.wal_frames.proofs.LogLaws.{one_valid}
use Rattle.wal_frames.proofs.laws.one_list_is_valid.Goals as goal

pub returns : goal.returns
returns c = one_valid
