use Rattle.std.proofs.Common.{◌≡◌, drop}
use Rattle.log_commands.specs.Numbers.{numbers_ascend}
use Rattle.log_commands.proofs.numbers.ascend.Given as goal

abbrev pub invariant-loop-page : goal.invariant-loop-page
invariant-loop-page l = numbers_ascend l.least (drop l.page-index l.pages) ≡ numbers_ascend l.first l.pages
