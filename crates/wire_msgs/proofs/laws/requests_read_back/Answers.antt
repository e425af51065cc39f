use Rattle.wire_msgs.specs.Requests.{request_line}
use Rattle.wire_msgs.proofs.ReadBack.{request_found, request_read}
use Rattle.wire_msgs.proofs.Spellings.{line_accepted}
use Rattle.wire_msgs.proofs.laws.requests_read_back.Goals as goal

pub returns : goal.returns
returns c = record { spelled = request_found; read = request_read; written = λ m request s. line_accepted (request_line request) m s }
