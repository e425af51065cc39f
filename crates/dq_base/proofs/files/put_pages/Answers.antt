use Rattle.std.proofs.Common.{◌≡◌, cond, sym, ◌∙◌}
use Rattle.std.proofs.lemmas.Bool.{cond-true, cond-false}
use Rattle.dq_base.specs.Images.{is_page_of, page_start}
use Rattle.dq_base.specs.Applying.{replaced, put_pages}
use Rattle.dq_base.proofs.Steps.{put_more, put_all}
use Rattle.dq_base.proofs.files.put_pages.Goals as goal
use Rattle.dq_base.proofs.files.put_pages.Goals.{then-is_page_of, else-is_page_of}

pub loop-page-preserved : goal.loop-page-preserved
loop-page-preserved c =
    let mine = is_page_of c.args.parity in
    let p = c.page-item.result in
    let put = replaced c.loop-page.file (page_start p.number) p.page in
    let step : c.if-is_page_of.file ≡ cond (mine p.number) put c.loop-page.file =
    elim c.if-is_page_of.branch [
      | then-is_page_of w ↦ w.file-is ∙ w.put_page.ensures ∙ sym (cond-true (mine p.number) put c.loop-page.file (sym c.is_page_of.ensures ∙ w.if-is_page_of.true))
      | else-is_page_of w ↦ w.file-is ∙ sym (cond-false (mine p.number) put c.loop-page.file (sym c.is_page_of.ensures ∙ w.if-is_page_of.false))
    ] in
    put_more mine c.loop-page.page-index c.args.pages.now p c.loop-page.file c.if-is_page_of.file (put_pages mine c.args.pages.now c.args.file.now) c.loop-page-test.true c.page-item.is step c.loop-page.invariant

pub returns : goal.returns
returns c =
    put_all (is_page_of c.args.parity) c.loop-page.page-index c.args.pages.now c.loop-page.file (put_pages (is_page_of c.args.parity) c.args.pages.now c.args.file.now) c.loop-page-test.false c.loop-page.invariant
