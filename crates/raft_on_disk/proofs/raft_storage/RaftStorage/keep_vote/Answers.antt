use Rattle.raft_on_disk.proofs.KeptStates.{stores_same}
use Rattle.raft_on_disk.proofs.raft_storage.RaftStorage.keep_vote.Goals as goal

pub returns-in-None-clause-kept : goal.returns-in-None-clause-kept
returns-in-None-clause-kept g c = rw c.in-None.is (λ k. stores_same g.D.Disk.tells (g.D.Disk.states c.args.disk.now) c.args.self.now.store k)

pub returns-in-Some-clause-kept : goal.returns-in-Some-clause-kept
returns-in-Some-clause-kept g c = rw c.in-Some.is (λ k. c.set_vote.ensures.kept k)
