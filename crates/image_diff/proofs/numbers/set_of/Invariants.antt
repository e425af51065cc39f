use Rattle.std.proofs.Common.{◌≡◌, [], drop}
use Rattle.image_diff.specs.Touched.{put_in_order}
use Rattle.image_diff.proofs.numbers.set_of.Given as goal

abbrev pub invariant-loop-number : goal.invariant-loop-number
invariant-loop-number l = put_in_order l.set.keys (drop l.number-index l.numbers) ≡ put_in_order [] l.numbers
