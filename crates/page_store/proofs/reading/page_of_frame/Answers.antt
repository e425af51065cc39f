use Rattle.std.proofs.Common.{◌≡◌, ◌-◌, List, ℕ, take, min, ap, ◌∙◌}
use Rattle.std.proofs.lemmas.List.{get_or_read}
use Rattle.dq_base.specs.declared.pages.NumberedPage.{NumberedPage}
use Rattle.dq_base.specs.Images.{resized}
use Rattle.page_store.specs.Laying.{length_of}
use Rattle.page_store.proofs.ReadPages.{least_of_file, kept_page}
use Rattle.page_store.proofs.reading.page_of_frame.Goals as goal

pub returns : goal.returns
returns c =
    let log = c.args.log.now in
    let p : NumberedPage = c.page-page.result.now in
    let least : ℕ = length_of c.args.parity c.least.result in
    let rest : ℕ = least - c.args.start in
    let kept : ℕ = c.min-kept.result in
    let kept_is : kept ≡ min rest 4096 = c.min-kept.ensures ∙ ap (λ (k : ℕ). min k 4096) (c.saturating_sub.ensures ∙ ap (λ (k : ℕ). k - c.args.start) c.length_of-least.ensures) in
    record {
      least = least;
      is_least = least_of_file c.args.parity log.lengths c.args.frame (c.args.count - 1) c.least.result c.least.ensures.main c.least.ensures.side;
      bytes = λ d.
          c.padded.ensures
          ∙ ap (λ (b : List ℕ). resized 4096 (take kept b)) c.bytes.ensures.value
          ∙ ap (resized 4096) (kept_page p.page rest kept c.page-page.ensures.size kept_is)
          ∙ ap (λ (q : NumberedPage). resized 4096 (take rest q.page)) (get_or_read log.pages c.args.frame p c.requires.pages c.page-page.ensures.value d);
    }
