use Rattle.std.proofs.Common.{subst, sym, ap, ◌∙◌}
use Rattle.std.proofs.lemmas.Result.{err_from_is_err_and}
use Rattle.page_store.specs.Store.{newest_image}
use Rattle.database_state.specs.Logs.{IsShort}
use Rattle.database_state.proofs.Short.{applied_short}
use Rattle.database_state.proofs.RestoringSteps.{pages_refused, pages_stored}
use Rattle.database_state.proofs.log_reading.store_of.Goals as goal

pub returns-in_err-apply_pages-clause-exact : goal.returns-in_err-apply_pages-clause-exact
returns-in_err-apply_pages-clause-exact c =
    let p = err_from_is_err_and c.from_residual.result c.from_residual.ensures.1 in
    rw (p.1, p.2) (pages_refused c.args.pages.now c.in_err-apply_pages.field-0.0 c.in_err-apply_pages.ensures.refused)

pub returns-clause-exact : goal.returns-clause-exact
returns-clause-exact c =
    pages_stored c.args.pages.now c.new-image.result c.apply_pages.new.image c.from_image.result c.new-image.ensures.main c.new-image.ensures.side c.in_ok-apply_pages.ensures.sound c.in_ok-apply_pages.ensures.done c.from_image.ensures

pub returns-clause-short : goal.returns-clause-short
returns-clause-short c =
    subst IsShort (sym (ap newest_image c.from_image.ensures ∙ c.in_ok-apply_pages.ensures.done)) (applied_short c.new-image.result c.args.pages.now c.in_ok-apply_pages.ensures.sound c.requires)
