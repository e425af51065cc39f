use Rattle.wire_msgs.proofs.ReadBack.{response_found, response_read}
use Rattle.wire_msgs.proofs.laws.responses_read_back.Goals as goal

pub returns : goal.returns
returns c = record { spelled = response_found; read = response_read }
