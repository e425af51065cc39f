use Rattle.raft_core.proofs.StartRules.{first_progress}
use Rattle.raft_core.proofs.starting.progress_of.Goals as goal

pub returns : goal.returns
returns c = first_progress c.new-progress.result c.set_peers.new.self c.args.own c.args.voters.now c.args.peers.now c.new-progress.ensures c.set_peers.ensures
