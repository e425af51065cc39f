use Rattle.std.proofs.Common.{◌≡◌, ◌++◌, drop}
use Rattle.image_diff.specs.Undoing.{pages_under}
use Rattle.image_diff.proofs.undoing.pages_under.Given as goal

abbrev pub invariant-loop-page : goal.invariant-loop-page
invariant-loop-page l = l.under.items ++ pages_under l.image (drop l.page-index l.pages) ≡ pages_under l.image l.pages
