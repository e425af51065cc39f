use Rattle.std.proofs.Common.{sym, ap, ◌∙◌}
use Rattle.dq_base.specs.declared.sizes.Lengths.{Lengths}
use Rattle.image_diff.specs.Pages.{ends_within}
use Rattle.image_diff.proofs.SameLengths.{other_sizes, same_ends}
use Rattle.image_diff.proofs.shown.same_lengths.Goals as goal

pub returns-then-not-has_sizes : goal.returns-then-not-has_sizes
returns-then-not-has_sizes g c =
    let lengths = c.lengths_of-lengths.ensures in
    other_sizes (g.P.ImagePages.image c.args.earlier.now) c.args.after.now lengths.main_fits lengths.side_fits (sym c.has_sizes.ensures ∙ c.if-not-has_sizes.true)

pub returns : goal.returns
returns g c =
    let before = g.P.ImagePages.image c.args.earlier.now in
    let after = c.args.after.now in
    let lengths = c.lengths_of-lengths.ensures in
    c.ends_within.ensures
    ∙ ap (λ (l : Lengths). ends_within before l.main l.side) lengths.lengths
    ∙ same_ends before after lengths.main_fits lengths.side_fits (sym c.has_sizes.ensures ∙ c.if-not-has_sizes.false)
