use Rattle.std.proofs.Common.{◌≡◌, ◌++◌, drop}
use Rattle.image_diff.specs.Reached.{pages_at}
use Rattle.image_diff.proofs.touched_image.pages_at.Given as goal

abbrev pub invariant-loop-number : goal.invariant-loop-number
invariant-loop-number l = l.pages.items ++ pages_at (drop l.number-index l.numbers) l.image ≡ pages_at l.numbers l.image
