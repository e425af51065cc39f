use Rattle.std.proofs.Common.{◌≡◌, ◌++◌, drop}
use Rattle.image_diff.specs.Reached as there
use Rattle.image_diff.proofs.touched_image.newer.Given as goal

abbrev pub invariant-loop-page : goal.invariant-loop-page
invariant-loop-page l = l.newer.items ++ there.newer l.before (drop l.page-index l.pages) ≡ there.newer l.before l.pages
