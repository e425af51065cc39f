use Rattle.std.proofs.Common.{◌≡◌, drop}
use Rattle.log_commands.specs.Reading.{pages_at}
use Rattle.log_commands.proofs.Loops.{pages_so_far}
use Rattle.log_commands.proofs.items.pages.Given as goal

abbrev pub invariant-loop-number : goal.invariant-loop-number
invariant-loop-number l = pages_so_far l.pages.items (drop l.number-index l.numbers) l.words ≡ pages_at l.numbers l.initial.words
