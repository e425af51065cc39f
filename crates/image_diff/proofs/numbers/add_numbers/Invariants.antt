use Rattle.std.proofs.Common.{◌≡◌, ◌++◌, drop}
use Rattle.image_diff.specs.Touched.{numbers_of}
use Rattle.image_diff.proofs.numbers.add_numbers.Given as goal

abbrev pub invariant-loop-page : goal.invariant-loop-page
invariant-loop-page l = l.numbers.items ++ numbers_of (drop l.page-index l.pages) ≡ l.initial.numbers.items ++ numbers_of l.pages
