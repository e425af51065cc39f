use Rattle.std.proofs.Common.{◌≡◌, ◌-◌, suc, ℕ, drop, ap, subst, ◌∙◌, arith}
use Rattle.std.proofs.lemmas.Result.{err_from_is_err_and}
use Rattle.raft_spec.specs.NodeValues.{node_of}
use Rattle.store_laws.specs.Store.{Log}
use Rattle.segment_store.specs.Keeping.{CanKeep, snap_value}
use Rattle.raft_on_disk.specs.Keeping.{log_from, StoresSnapshot}
use Rattle.raft_on_disk.proofs.KeptStates.{snapshot_none}
use Rattle.raft_on_disk.proofs.raft_storage.RaftStorage.keep_install.Goals as goal

pub returns-in_err-first-clause-kept : goal.returns-in_err-first-clause-kept
returns-in_err-first-clause-kept g c =
    let p = err_from_is_err_and c.from_residual.result c.from_residual.ensures.1 in
    rw p.1 (λ k can. snapshot_none g.D.Disk.tells (g.D.Disk.states c.args.disk.now) c.args.self.now.store c.args.self.now.store k (snap_value c.args.snapshot) (log_from c.args.snapshot.index (node_of c.args.raft.now).log) p.0)

pub returns-clause-kept : goal.returns-clause-kept
returns-clause-kept g c =
    let e : c.in_ok-first.first ≡ suc c.args.snapshot.index = c.in_ok-first.ensures in
    let one : c.in_ok-first.first - 1 ≡ c.args.snapshot.index = omega arith in
    let entries = c.tail.ensures ∙ ap (λ (k : ℕ). drop k (node_of c.args.raft.now).log) one in
    let own : Log = record { first = c.in_ok-first.first; entries = c.tail.result.now } in
    let is : own ≡ log_from c.args.snapshot.index (node_of c.args.raft.now).log = λ i. record { first = e i; entries = entries i } in
    λ k. subst (λ (l : Log). CanKeep k (snap_value c.args.snapshot) l → StoresSnapshot g.D.Disk.tells (g.D.Disk.states c.args.disk.now) (g.D.Disk.states c.keep_snapshot.new.disk) c.args.self.now.store c.keep_snapshot.new.self.store k (snap_value c.args.snapshot) l c.keep_snapshot.result) is (c.keep_snapshot.ensures.kept k)
