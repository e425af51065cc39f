use Rattle.std.proofs.Common.{◌≡◌, [], ◌∷◌, ◌++◌, List, ℕ, ap, ◌∙◌}
use Rattle.dq_base.specs.declared.pages.NumberedPage.{NumberedPage}
use Rattle.image_diff.specs.Touched.{changed_at}
use Rattle.image_diff.proofs.ListedPages.{nothing_changed, all_changed}
use Rattle.image_diff.proofs.shown.change_between.Goals as goal

pub returns-then-is_unchanged : goal.returns-then-is_unchanged
returns-then-is_unchanged g c =
    let before = g.P.ImagePages.image c.args.earlier.now in
    let after = c.args.after.now in
    let fits = c.lengths_of.ensures in
    nothing_changed before after c.args.touched.now c.in_ok-numbers.numbers.items c.in_ok-pages.pages.items c.requires.listed c.in_ok-numbers.ensures (c.in_ok-pages.ensures ∙ ap (λ (ns : List ℕ). changed_at ns before after) c.as_slice.ensures.value)
    fits.main_fits fits.side_fits _ c.is_unchanged.ensures c.if-is_unchanged.true

pub returns : goal.returns
returns g c =
    let before = g.P.ImagePages.image c.args.earlier.now in
    let after = c.args.after.now in
    let fits = c.lengths_of.ensures in
    let pushed : c.push.new.self.items ≡ c.in_ok-pages.pages.items ++ c.sizes_of.result ∷ [] = c.in_ok-push.ensures.items in
    all_changed before after c.args.touched.now c.in_ok-numbers.numbers.items c.in_ok-pages.pages.items c.requires.listed c.in_ok-numbers.ensures (c.in_ok-pages.ensures ∙ ap (λ (ns : List ℕ). changed_at ns before after) c.as_slice.ensures.value)
    fits.main_fits fits.side_fits _ _ c.is_unchanged.ensures c.if-is_unchanged.false (pushed ∙ ap (λ (p : NumberedPage). c.in_ok-pages.pages.items ++ p ∷ []) c.sizes_of.ensures)
