use Rattle.wire_words.proofs.Cutting.{stream_joined}
use Rattle.wire_words.proofs.StreamLaws.{version_first, message_first}
use Rattle.wire_words.proofs.laws.streams_read_back.Goals as goal

pub returns : goal.returns
returns c = record { begins = version_first; read = message_first; joined = stream_joined }
