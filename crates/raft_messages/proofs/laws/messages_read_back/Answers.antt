use Rattle.raft_messages.proofs.MessageLaws.{message_found, message_read}
use Rattle.raft_messages.proofs.Written.{written_is_read}
use Rattle.raft_messages.proofs.laws.messages_read_back.Goals as goal

pub returns-clause-spelled : goal.returns-clause-spelled
returns-clause-spelled c = message_found

pub returns-clause-read : goal.returns-clause-read
returns-clause-read c = message_read

pub returns-clause-written : goal.returns-clause-written
returns-clause-written c = written_is_read
