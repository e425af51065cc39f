use Rattle.raft_on_disk.proofs.Tellings.{servers_alone_holds}
use Rattle.raft_on_disk.proofs.laws.servers_change_nothing_else.Goals as goal

pub returns : goal.returns
returns c = servers_alone_holds
