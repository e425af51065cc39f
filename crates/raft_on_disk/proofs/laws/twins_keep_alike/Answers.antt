use Rattle.raft_on_disk.proofs.LogFollows.{twins_follow}
use Rattle.raft_on_disk.proofs.TwinKeeps.{twins_keep, twins_stop}
use Rattle.raft_on_disk.proofs.laws.twins_keep_alike.Goals as goal

pub returns-clause-keep : goal.returns-clause-keep
returns-clause-keep c = twins_keep

pub returns-clause-stop : goal.returns-clause-stop
returns-clause-stop c = twins_stop

pub returns-clause-follow : goal.returns-clause-follow
returns-clause-follow c = twins_follow
