use Rattle.std.proofs.Common.{◌≡◌, ◌++◌, drop}
use Rattle.log_commands.specs.Spelling.{number_words, HaveNumbers}
use Rattle.log_commands.proofs.writing.put_numbers.Given as goal

abbrev pub invariant-loop-page : goal.invariant-loop-page
invariant-loop-page l = (l.out ++ number_words (drop l.page-index l.pages) ≡ l.initial.out ++ number_words l.pages) × (HaveNumbers (drop l.page-index l.pages) → HaveNumbers l.pages)
