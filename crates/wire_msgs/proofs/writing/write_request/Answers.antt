use Rattle.wire_msgs.specs.Requests.{request_line}
use Rattle.wire_msgs.proofs.Spellings.{is_written}
use Rattle.wire_msgs.proofs.writing.write_request.Goals as goal

pub returns-clause-writes : goal.returns-clause-writes
returns-clause-writes c =
    let all = c.whole_request.ensures in
    is_written (request_line c.args.request.now) c.whole_request.result all.fit all.bytes all.whole all.long
