use Rattle.std.proofs.lemmas.Result.{err_from_is_err_and}
use Rattle.store_laws.specs.Store.{Log}
use Rattle.store_laws.specs.Append.{with_batch}
use Rattle.raft_on_disk.proofs.KeptStates.{stores_none, stores_err, stores_ok}
use Rattle.raft_on_disk.proofs.raft_storage.RaftStorage.keep_batch.Goals as goal

pub returns-in_err-next-clause-kept : goal.returns-in_err-next-clause-kept
returns-in_err-next-clause-kept g c =
    let b : Log = record { first = c.args.first; entries = c.args.entries.now } in
    let p = err_from_is_err_and c.from_residual.result c.from_residual.ensures.1 in
    rw p.1 (λ k can. stores_none g.D.Disk.tells (g.D.Disk.states c.args.disk.now) c.args.self.now.store c.args.self.now.store k (with_batch b k) p.0)

pub returns-in_err-append-clause-kept : goal.returns-in_err-append-clause-kept
returns-in_err-append-clause-kept g c =
    let b : Log = record { first = c.args.first; entries = c.args.entries.now } in
    let p = err_from_is_err_and c.from_residual-in_err-append.result c.from_residual-in_err-append.ensures.1 in
    rw p.1 (λ k can. stores_err g.D.Disk.tells (g.D.Disk.states c.args.disk.now) (g.D.Disk.states c.append.new.disk) c.args.self.now.store c.append.new.self c.append.new.self k (with_batch b k) c.in_err-append.field-0.0 p.0 (c.in_err-append.ensures.kept k can))

pub returns-clause-kept : goal.returns-clause-kept
returns-clause-kept g c =
    let b : Log = record { first = c.args.first; entries = c.args.entries.now } in
    λ k can. stores_ok g.D.Disk.tells (g.D.Disk.states c.args.disk.now) (g.D.Disk.states c.append.new.disk) c.args.self.now.store c.append.new.self k (with_batch b k) c.in_ok-append.field-0 tt (c.in_ok-append.ensures.kept k can)
