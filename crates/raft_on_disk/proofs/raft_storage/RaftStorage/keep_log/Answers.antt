use Rattle.std.proofs.Common.{◌≡◌}
use Rattle.store_laws.specs.Store.{Log}
use Rattle.store_laws.specs.Append.{CanAppend, with_batch}
use Rattle.raft_spec.specs.NodeValues.{node_of}
use Rattle.raft_on_disk.specs.Keeping.{batch_from, Stores}
use Rattle.raft_on_disk.proofs.KeptStates.{stores_same}
use Rattle.std.proofs.Common.{subst}
use Rattle.raft_on_disk.proofs.raft_storage.RaftStorage.keep_log.Goals as goal

pub returns-in-Some-clause-kept : goal.returns-in-Some-clause-kept
returns-in-Some-clause-kept g c = rw c.in-Some.is (λ k. c.keep_install.ensures.kept k)

pub returns-in-Some-batch-clause-kept : goal.returns-in-Some-batch-clause-kept
returns-in-Some-batch-clause-kept g c =
    let first = c.in-Some-batch.first in
    let own : Log = record { first = first; entries = c.tail.result.now } in
    let is : own ≡ batch_from first (node_of c.args.raft.now).log = λ i. record { first = first; entries = c.tail.ensures i } in
    rw c.in-None.is (rw c.in-Some-batch.is (λ k. subst (λ (b : Log). CanAppend k b → Stores g.D.Disk.tells (g.D.Disk.states c.args.disk.now) (g.D.Disk.states c.keep_batch.new.disk) c.args.self.now.store c.keep_batch.new.self.store k (with_batch b k) c.keep_batch.result) is (c.keep_batch.ensures.kept k)))

pub returns-in-None-batch-clause-kept : goal.returns-in-None-batch-clause-kept
returns-in-None-batch-clause-kept g c = rw c.in-None.is (rw c.in-None-batch.is (λ k. stores_same g.D.Disk.tells (g.D.Disk.states c.args.disk.now) c.args.self.now.store k))
