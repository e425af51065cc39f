use Rattle.raft_messages.proofs.MessageLaws.{message_refused}
use Rattle.raft_messages.proofs.Written.{unspelled}
use Rattle.raft_messages.proofs.laws.out_of_range_is_refused.Goals as goal

pub returns-clause-unspelled : goal.returns-clause-unspelled
returns-clause-unspelled c = unspelled

pub returns-clause-refused : goal.returns-clause-refused
returns-clause-refused c = message_refused
