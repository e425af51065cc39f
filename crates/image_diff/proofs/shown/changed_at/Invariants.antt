use Rattle.std.proofs.Common.{◌≡◌, ◌++◌, drop}
use Rattle.image_diff.specs.Touched.{changed_at}
use Rattle.image_diff.proofs.shown.changed_at.Given as goal

abbrev pub invariant-loop-number : goal.invariant-loop-number
invariant-loop-number g l =
    let before = g.P.ImagePages.image l.earlier in
    l.pages.items ++ changed_at (drop l.number-index l.numbers) before l.after ≡ changed_at l.numbers before l.after
