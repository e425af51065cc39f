use Rattle.wal_frames.proofs.HeaderLaws.{header_of-header, header_of-ok}
use Rattle.wal_frames.proofs.laws.headers_read_back.Goals as goal

pub returns : goal.returns
returns c = record { spelled = header_of-ok; read = header_of-header }
