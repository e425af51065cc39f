use Rattle.std.proofs.Common.{◌≡◌, ◌+◌, List, [], ◌∷◌, ◌++◌, length, take, sym, ap, ◌∙◌}
use Rattle.std.specs.Prelude.{Result, Ok, Err, OnErr}
use Rattle.std.proofs.lemmas.List.{take_more, take_all}
use Rattle.dq_base.specs.declared.pages.NumberedPage.{NumberedPage}
use Rattle.page_store.specs.Log.{Log, extended, first_of}
use Rattle.page_store.proofs.FramesKept.{extended_none, extended_more, first_of-extended}
use Rattle.page_store.proofs.frame_log.FrameLog.append_some.Goals as goal

pub loop-page-init : goal.loop-page-init
loop-page-init c = sym (extended_none c.args.self.now c.args.lengths)

pub loop-page-preserved : goal.loop-page-preserved
loop-page-preserved c =
    let pages = c.args.pages.now in
    let i = c.loop-page.page-index in
    let p = c.page-item.result in
    let more : take (i + 1) pages ≡ take i pages ++ p ∷ [] = take_more pages i p c.loop-page-test.true ∙ ap (λ (q : NumberedPage). take i pages ++ q ∷ []) (sym c.page-item.is) in
    c.in_ok-push.ensures.done
    ∙ ap (λ (g : Log). extended g (p ∷ []) c.args.lengths) c.loop-page.invariant
    ∙ extended_more c.args.self.now (take i pages) p c.args.lengths
    ∙ ap (λ (ps : List NumberedPage). extended c.args.self.now ps c.args.lengths) (sym more)

on_err : {T E : Type 0} (r : Result T E) (P : Type 0) → P → OnErr r P
on_err (Ok x) P p = tt
on_err (Err e) P p = p

pub returns-in_err-push-clause-front : goal.returns-in_err-push-clause-front
returns-in_err-push-clause-front c =
    let log = c.args.self.now in
    on_err c.from_residual.result _
    (ap (first_of (length log.pages)) (c.in_err-push.ensures.kept ∙ c.loop-page.invariant) ∙ first_of-extended log (take c.loop-page.page-index c.args.pages.now) c.args.lengths c.len-before.ensures.same)

pub returns-clause-done : goal.returns-clause-done
returns-clause-done c =
    c.loop-page.invariant ∙ ap (λ (ps : List NumberedPage). extended c.args.self.now ps c.args.lengths) (take_all c.loop-page.page-index c.args.pages.now c.loop-page-test.false)
