use Rattle.std.proofs.lemmas.Result.{err_from_is_err_and}
use Rattle.store_laws.specs.Store.{Log}
use Rattle.segment_store.specs.Keeping.{snap_value}
use Rattle.raft_on_disk.proofs.KeptStates.{snapshot_none, snapshot_err, snapshot_ok}
use Rattle.raft_on_disk.proofs.raft_storage.RaftStorage.keep_snapshot.Goals as goal

pub returns-in_err-next-clause-kept : goal.returns-in_err-next-clause-kept
returns-in_err-next-clause-kept g c =
    let l : Log = record { first = c.args.first; entries = c.args.rest.now } in
    let p = err_from_is_err_and c.from_residual.result c.from_residual.ensures.1 in
    rw p.1 (λ k can. snapshot_none g.D.Disk.tells (g.D.Disk.states c.args.disk.now) c.args.self.now.store c.args.self.now.store k (snap_value c.args.snapshot) l p.0)

pub returns-in_err-keep_snapshot-clause-kept : goal.returns-in_err-keep_snapshot-clause-kept
returns-in_err-keep_snapshot-clause-kept g c =
    let l : Log = record { first = c.args.first; entries = c.args.rest.now } in
    let p = err_from_is_err_and c.from_residual-in_err-keep_snapshot.result c.from_residual-in_err-keep_snapshot.ensures.1 in
    rw p.1 (λ k can. snapshot_err g.D.Disk.tells (g.D.Disk.states c.args.disk.now) (g.D.Disk.states c.keep_snapshot.new.disk) c.args.self.now.store c.keep_snapshot.new.self c.keep_snapshot.new.self k (snap_value c.args.snapshot) l c.in_err-keep_snapshot.field-0.0 p.0 (c.in_err-keep_snapshot.ensures.kept k can))

pub returns-clause-kept : goal.returns-clause-kept
returns-clause-kept g c =
    let l : Log = record { first = c.args.first; entries = c.args.rest.now } in
    λ k can. snapshot_ok g.D.Disk.tells (g.D.Disk.states c.args.disk.now) (g.D.Disk.states c.keep_snapshot.new.disk) c.args.self.now.store c.keep_snapshot.new.self k (snap_value c.args.snapshot) l c.in_ok-keep_snapshot.field-0 tt (c.in_ok-keep_snapshot.ensures.kept k can)
