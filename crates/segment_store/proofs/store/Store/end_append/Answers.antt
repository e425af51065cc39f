use Rattle.std.proofs.Common.{◌≤◌, ◌∙◌, Ok, Err, subst}
use Rattle.std.proofs.lemmas.Result.{err_from_is_err_and}
use Rattle.disk_model.proofs.Counting.{calls_one}
use Rattle.segment_store.specs.declared.fault.StoreFault.{StoreFault}
use Rattle.segment_store.specs.Open.{Open}
use Rattle.segment_store.proofs.Halves.{to_err, to_ok, named_sync, surely_counted, end_kept}
use Rattle.segment_store.proofs.store.Store.end_append.Goals as goal

pub returns-in_err-sync-clause-went : goal.returns-in_err-sync-clause-went
returns-in_err-sync-clause-went g c =
    let p = err_from_is_err_and c.from_residual.result c.from_residual.ensures.1 in
    rw p.1 (to_err _ _ _ c.in_err-sync.field-0.0 _ (named_sync _ _ (c.as_str.ensures.value ∙ c.requires) _ _ _ c.in_err-sync.ensures.told))

pub returns-clause-went : goal.returns-clause-went
returns-clause-went g c =
    to_ok _ _ _ c.in_ok-sync.field-0 _ (named_sync _ _ (c.as_str.ensures.value ∙ c.requires) _ _ _ c.in_ok-sync.ensures.told)

pub returns-in_err-sync-clause-kept : goal.returns-in_err-sync-clause-kept
returns-in_err-sync-clause-kept g c =
    let p = err_from_is_err_and c.from_residual.result c.from_residual.ensures.1 in
    rw p.1 (λ k b. end_kept g.D.Disk.tells _ c.args.self.now c.args.self.now k b c.args.batch.size (Err p.0)
    (subst (λ (o : Open). o.next ≤ 10000000000000000) c.self.view_is c.self.invariant.0) tt _
    (to_err _ _ _ c.in_err-sync.field-0.0 p.0 (named_sync _ _ (c.as_str.ensures.value ∙ c.requires) _ _ _ c.in_err-sync.ensures.told)))

pub returns-clause-kept : goal.returns-clause-kept
returns-clause-kept g c = λ k b.
    end_kept {E = StoreFault} g.D.Disk.tells _ c.args.self.now c.note_grown.new.self k b c.args.batch.size (Ok tt)
    (subst (λ (o : Open). o.next ≤ 10000000000000000) c.self.view_is c.self.invariant.0) c.note_grown.ensures _
    (to_ok _ _ _ c.in_ok-sync.field-0 tt (named_sync _ _ (c.as_str.ensures.value ∙ c.requires) _ _ _ c.in_ok-sync.ensures.told))

pub returns-in_err-sync-clause-failed : goal.returns-in_err-sync-clause-failed
returns-in_err-sync-clause-failed g c =
    let p = err_from_is_err_and c.from_residual.result c.from_residual.ensures.1 in
    rw p.1 (surely_counted (Unit {0}) _ _ _ _ c.in_err-sync.field-0.0 p.0 c.in_err-sync.ensures.cause c.in_err-sync.ensures.want)

pub returns-in_err-sync-clause-count : goal.returns-in_err-sync-clause-count
returns-in_err-sync-clause-count g c =
    let p = err_from_is_err_and c.from_residual.result c.from_residual.ensures.1 in
    rw p.1 (calls_one _ _ _ c.in_err-sync.ensures.count)

pub returns-clause-count : goal.returns-clause-count
returns-clause-count g c = calls_one _ _ _ c.in_ok-sync.ensures.count
