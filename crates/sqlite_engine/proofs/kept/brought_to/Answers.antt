use Rattle.std.proofs.Common.{◌≡◌, ap, ◌∙◌}
use Rattle.dq_base.specs.declared.pages.PageSet.{PageSet}
use Rattle.dq_base.specs.Changes.{changed}
use Rattle.sqlite_files.specs.Pairs.{both}
use Rattle.sqlite_engine.proofs.kept.brought_to.Goals as goal

pub returns-then-takes_over : goal.returns-then-takes_over
returns-then-takes_over c =
    let whole : both c.as_slice.result.now c.as_slice-2.result.now ≡ c.args.other.now = λ i. record { main = c.as_slice.ensures i; side = c.as_slice-2.ensures i } in
    c.takes_over.ensures c.if-takes_over.true c.args.other.now c.is_short.ensures (ap (λ (s : PageSet). s.pages) c.in-Ok.ensures ∙ ap (changed c.args.image) whole)
