use Rattle.raft_messages.proofs.Written.{is_written}
use Rattle.raft_messages.proofs.writing.write_message.Goals as goal

pub returns-clause-writes : goal.returns-clause-writes
returns-clause-writes c =
    let all = c.whole_message.ensures in
    is_written c.args.message.now c.whole_message.result all.holds all.bytes all.whole all.long
