use Rattle.std.proofs.Common.{List, Ok, Err, subst}
use Rattle.std.proofs.lemmas.Result.{err_from_is_err_and}
use Rattle.disk_model.specs.Trait.{Text, Ran}
use Rattle.segment_store.specs.Keeping.{removal_calls, loose_removal_calls}
use Rattle.segment_store.proofs.Segments.{ran_both, ran_front}
use Rattle.std.proofs.Common.{◌*◌, length, sym, ap}
use Rattle.disk_model.proofs.Counting.{calls_broke, calls_more}
use Rattle.segment_store.proofs.CountedCalls.{counts_as}
use Rattle.segment_store.proofs.keep_files.remove_old.Goals as goal

pub returns-in_err-remove_synced-clause-ran : goal.returns-in_err-remove_synced-clause-ran
returns-in_err-remove_synced-clause-ran g c =
    let p = err_from_is_err_and c.from_residual.result c.from_residual.ensures.1 in
    rw p.1 (ran_front (removal_calls c.args.old.now.segments.items) (loose_removal_calls c.args.old.now.snapshots.items) _ _ c.in_err-remove_synced.field-0.0 _
    (subst (λ (ns : List Text). Ran {T = Unit {0}} (removal_calls ns) (g.D.Disk.states c.args.disk.now) (g.D.Disk.states c.remove_synced.new.disk) (Err c.in_err-remove_synced.field-0.0)) c.as_slice.ensures.value c.in_err-remove_synced.ensures.ran))

pub returns-clause-ran : goal.returns-clause-ran
returns-clause-ran g c =
    ran_both (removal_calls c.args.old.now.segments.items) (loose_removal_calls c.args.old.now.snapshots.items) _ _ _ c.in_ok-remove_synced.field-0 c.remove_loose.result
    (subst (λ (ns : List Text). Ran {T = Unit {0}} (removal_calls ns) (g.D.Disk.states c.args.disk.now) (g.D.Disk.states c.remove_synced.new.disk) (Ok c.in_ok-remove_synced.field-0)) c.as_slice.ensures.value c.in_ok-remove_synced.ensures.ran)
    (subst (λ (ns : List Text). Ran (loose_removal_calls ns) (g.D.Disk.states c.remove_synced.new.disk) (g.D.Disk.states c.remove_loose.new.disk) c.remove_loose.result) c.as_slice-2.ensures.value c.remove_loose.ensures.ran)

pub returns-in_err-remove_synced-clause-count : goal.returns-in_err-remove_synced-clause-count
returns-in_err-remove_synced-clause-count g c =
    let p = err_from_is_err_and c.from_residual.result c.from_residual.ensures.1 in
    rw p.1 (calls_broke (2 * length c.args.old.now.segments.items) (length c.args.old.now.snapshots.items) _ _ c.in_err-remove_synced.field-0.0 _ (counts_as _ (2 * length c.args.old.now.segments.items) _ _ _ (ap (λ (ns : List Text). 2 * length ns) (sym c.as_slice.ensures.value)) c.in_err-remove_synced.ensures.count))

pub returns-clause-count : goal.returns-clause-count
returns-clause-count g c = calls_more (2 * length c.args.old.now.segments.items) (length c.args.old.now.snapshots.items) _ _ _ c.in_ok-remove_synced.field-0 c.remove_loose.result (counts_as _ (2 * length c.args.old.now.segments.items) _ _ _ (ap (λ (ns : List Text). 2 * length ns) (sym c.as_slice.ensures.value)) c.in_ok-remove_synced.ensures.count) (counts_as _ (length c.args.old.now.snapshots.items) _ _ _ (ap (λ (ns : List Text). length ns) (sym c.as_slice-2.ensures.value)) c.remove_loose.ensures.count)
