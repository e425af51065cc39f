use Rattle.std.proofs.lemmas.Result.{err_from_is_err_and}
use Rattle.segment_store.proofs.Halves.{steps_err, hinted_steps, hinted_cause, hinted_want, hinted_count}
use Rattle.segment_store.proofs.segment.write_unsynced.Goals as goal

pub returns-in_err-write_at-clause-told : goal.returns-in_err-write_at-clause-told
returns-in_err-write_at-clause-told g c = λ known.
    let p = err_from_is_err_and c.from_residual.result c.from_residual.ensures.1 in
    rw p.1 (steps_err _ _ _ _ _ (c.in_err-write_at.ensures.told known))

pub returns-clause-told : goal.returns-clause-told
returns-clause-told g c = λ known. hinted_steps _ _ _ _ c.in_ok-write_at.field-0 c.begin_sync.result c.begin_sync.ensures.hint.states (c.in_ok-write_at.ensures.told known)

pub returns-clause-cause : goal.returns-clause-cause
returns-clause-cause g c = hinted_cause _ _ _ c.in_ok-write_at.field-0 c.begin_sync.result c.begin_sync.ensures.hint.same_faults c.in_ok-write_at.ensures.cause

pub returns-clause-want : goal.returns-clause-want
returns-clause-want g c = hinted_want _ _ _ c.in_ok-write_at.field-0 c.begin_sync.result c.begin_sync.ensures.hint.same_wants c.in_ok-write_at.ensures.want

pub returns-clause-count : goal.returns-clause-count
returns-clause-count g c = hinted_count _ _ _ _ c.begin_sync.ensures.hint.same_made c.in_ok-write_at.ensures.count
