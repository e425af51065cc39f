use Rattle.std.proofs.Common.{◌≤◌, ◌∙◌, Err, ℕ, length, ap, subst}
use Rattle.std.proofs.lemmas.Result.{err_from_is_err_and}
use Rattle.store_laws.specs.Names.{Segment}
use Rattle.segment_store.specs.FileNames.{file_name}
use Rattle.segment_store.specs.Open.{Open}
use Rattle.segment_store.proofs.Appending.{grown}
use Rattle.segment_store.proofs.CallsMade.{grown_made}
use Rattle.segment_store.proofs.Halves.{both_causes, both_stay, grow_failed, grow_went, noted_at}
use Rattle.disk_model.proofs.Counting.{calls_broke, calls_more}
use Rattle.segment_store.proofs.store.Store.grow.Goals as goal

pub end_append-requires : goal.end_append-requires
end_append-requires g c = c.in_ok-unsynced.ensures.unsynced.0 ∙ ap (λ (n : ℕ). file_name (Segment n)) c.last.ensures.number

pub returns-clause-store : goal.returns-clause-store
returns-clause-store g c = noted_at c.args.self.now c.end_append.new.self c.args.size (length c.args.batch.now) c.in_ok-unsynced.unsynced.size
    c.end_append.result c.end_append.ensures.store c.in_ok-unsynced.ensures.unsynced.1

pub returns-in_err-unsynced-clause-kept : goal.returns-in_err-unsynced-clause-kept
returns-in_err-unsynced-clause-kept g c =
    let p = err_from_is_err_and c.from_residual.result c.from_residual.ensures.1 in
    rw p.1 (λ k b is fits can room. grown g.D.Disk.tells (g.D.Disk.states c.args.disk.now) (g.D.Disk.states c.write_batch.new.disk) c.args.self.now
    c.args.self.now k b c.args.batch.now is fits can (Err p.0)
    (subst (λ (o : Open). o.next ≤ 10000000000000000) c.self.view_is c.self.invariant.0) c.args.size c.last.result room c.last.ensures.number tt
    (λ may. grow_failed (g.D.Disk.states c.args.disk.now) (g.D.Disk.states c.args.disk.now) (g.D.Disk.states c.write_batch.new.disk) c.args.self.now
    c.args.size c.last.result c.args.batch.now c.last.ensures.number c.in_err-unsynced.field-0.0 p.0 (c.in_err-unsynced.ensures.went may)))

pub returns-clause-kept : goal.returns-clause-kept
returns-clause-kept g c = λ k b is fits can room.
    grown g.D.Disk.tells (g.D.Disk.states c.args.disk.now) (g.D.Disk.states c.end_append.new.disk) c.args.self.now c.end_append.new.self k b
    c.args.batch.now is fits can c.end_append.result (subst (λ (o : Open). o.next ≤ 10000000000000000) c.self.view_is c.self.invariant.0)
    c.args.size c.last.result room c.last.ensures.number
    (noted_at c.args.self.now c.end_append.new.self c.args.size (length c.args.batch.now) c.in_ok-unsynced.unsynced.size c.end_append.result
    c.end_append.ensures.store c.in_ok-unsynced.ensures.unsynced.1)
    (λ may. grow_went (g.D.Disk.states c.args.disk.now) (g.D.Disk.states c.write_batch.new.disk) (g.D.Disk.states c.end_append.new.disk)
    c.args.self.now c.args.size c.last.result c.args.batch.now c.last.ensures.number c.in_ok-unsynced.unsynced c.end_append.result
    (c.in_ok-unsynced.ensures.went may) c.end_append.ensures.went)

pub returns-in_err-unsynced-clause-calls : goal.returns-in_err-unsynced-clause-calls
returns-in_err-unsynced-clause-calls g c =
    let p = err_from_is_err_and c.from_residual.result c.from_residual.ensures.1 in
    rw p.1 (λ k room. grown_made g.D.Disk.tells (g.D.Disk.states c.args.disk.now) (g.D.Disk.states c.write_batch.new.disk) c.args.self.now k (Err p.0)
    c.args.size c.last.result c.args.batch.now room c.last.ensures.number
    (λ may. grow_failed (g.D.Disk.states c.args.disk.now) (g.D.Disk.states c.args.disk.now) (g.D.Disk.states c.write_batch.new.disk) c.args.self.now
    c.args.size c.last.result c.args.batch.now c.last.ensures.number c.in_err-unsynced.field-0.0 p.0 (c.in_err-unsynced.ensures.went may)))

pub returns-clause-calls : goal.returns-clause-calls
returns-clause-calls g c = λ k room.
    grown_made g.D.Disk.tells (g.D.Disk.states c.args.disk.now) (g.D.Disk.states c.end_append.new.disk) c.args.self.now k c.end_append.result
    c.args.size c.last.result c.args.batch.now room c.last.ensures.number
    (λ may. grow_went (g.D.Disk.states c.args.disk.now) (g.D.Disk.states c.write_batch.new.disk) (g.D.Disk.states c.end_append.new.disk)
    c.args.self.now c.args.size c.last.result c.args.batch.now c.last.ensures.number c.in_ok-unsynced.unsynced c.end_append.result
    (c.in_ok-unsynced.ensures.went may) c.end_append.ensures.went)

pub returns-clause-cause : goal.returns-clause-cause
returns-clause-cause g c = both_causes _ _ _ c.in_ok-unsynced.unsynced c.end_append.result c.in_ok-unsynced.ensures.cause c.end_append.ensures.cause

pub returns-clause-stays : goal.returns-clause-stays
returns-clause-stays g c = both_stay _ _ _ _ _ _ _ _ c.end_append.result c.in_ok-unsynced.ensures.cause.never_falls c.in_ok-unsynced.ensures.wants
    c.end_append.ensures.failed

pub returns-in_err-unsynced-clause-count : goal.returns-in_err-unsynced-clause-count
returns-in_err-unsynced-clause-count g c =
    let p = err_from_is_err_and c.from_residual.result c.from_residual.ensures.1 in
    rw p.1 (calls_broke 1 1 _ _ c.in_err-unsynced.field-0.0 _ c.in_err-unsynced.ensures.count)

pub returns-clause-count : goal.returns-clause-count
returns-clause-count g c = calls_more 1 1 _ _ _ c.in_ok-unsynced.unsynced c.end_append.result c.in_ok-unsynced.ensures.count c.end_append.ensures.count
