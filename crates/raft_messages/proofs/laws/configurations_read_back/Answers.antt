use Rattle.raft_messages.proofs.ServerLaws.{servers_found, servers_read}
use Rattle.raft_messages.proofs.laws.configurations_read_back.Goals as goal

pub returns-clause-spelled : goal.returns-clause-spelled
returns-clause-spelled c = servers_found

pub returns-clause-read : goal.returns-clause-read
returns-clause-read c = servers_read
