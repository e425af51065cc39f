use Rattle.wire_msgs.specs.Requests.{request_line}
use Rattle.wire_msgs.specs.Responses.{response_line}
use Rattle.wire_msgs.proofs.Spellings.{line_only}
use Rattle.wire_msgs.proofs.laws.messages_have_one_spelling.Goals as goal

pub returns : goal.returns
returns c = record { request = λ request bytes w. line_only (request_line request) bytes w; response = λ response bytes w. line_only (response_line response) bytes w }
