use Rattle.raft_messages.proofs.Written.{stand_apart}
use Rattle.raft_messages.proofs.laws.messages_stand_apart.Goals as goal

pub returns : goal.returns
returns c = stand_apart
