use Rattle.std.proofs.lemmas.Result.{err_from_is_err_and}
use Rattle.store_laws.specs.Meta.{with_vote}
use Rattle.raft_on_disk.proofs.KeptStates.{stores_none, stores_err, stores_ok}
use Rattle.raft_on_disk.proofs.raft_storage.RaftStorage.set_vote.Goals as goal

pub returns-in_err-next-clause-kept : goal.returns-in_err-next-clause-kept
returns-in_err-next-clause-kept g c =
    let p = err_from_is_err_and c.from_residual.result c.from_residual.ensures.1 in
    rw p.1 (λ k. stores_none g.D.Disk.tells (g.D.Disk.states c.args.disk.now) c.args.self.now.store c.args.self.now.store k (with_vote c.args.term c.args.vote k) p.0)

pub returns-in_err-set_meta-clause-kept : goal.returns-in_err-set_meta-clause-kept
returns-in_err-set_meta-clause-kept g c =
    let p = err_from_is_err_and c.from_residual-in_err-set_meta.result c.from_residual-in_err-set_meta.ensures.1 in
    rw p.1 (λ k. stores_err g.D.Disk.tells (g.D.Disk.states c.args.disk.now) (g.D.Disk.states c.set_meta.new.disk) c.args.self.now.store c.set_meta.new.self c.set_meta.new.self k (with_vote c.args.term c.args.vote k) c.in_err-set_meta.field-0.0 p.0 (c.in_err-set_meta.ensures.kept k))

pub returns-clause-kept : goal.returns-clause-kept
returns-clause-kept g c = λ k. stores_ok g.D.Disk.tells (g.D.Disk.states c.args.disk.now) (g.D.Disk.states c.set_meta.new.disk) c.args.self.now.store c.set_meta.new.self k (with_vote c.args.term c.args.vote k) c.in_ok-set_meta.field-0 tt (c.in_ok-set_meta.ensures.kept k)
