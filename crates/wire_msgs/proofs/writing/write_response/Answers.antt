use Rattle.wire_msgs.specs.Responses.{response_line}
use Rattle.wire_msgs.proofs.Spellings.{is_written}
use Rattle.wire_msgs.proofs.writing.write_response.Goals as goal

pub returns-clause-writes : goal.returns-clause-writes
returns-clause-writes c =
    let all = c.whole_response.ensures in
    is_written (response_line c.args.response.now) c.whole_response.result all.fit all.bytes all.whole all.long
