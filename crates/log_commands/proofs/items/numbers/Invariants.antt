use Rattle.std.proofs.Common.{◌≡◌, ◌-◌}
use Rattle.log_commands.specs.Reading.{numbers_at}
use Rattle.wire_words.proofs.ReadingLoops.{with_front}
use Rattle.log_commands.proofs.items.numbers.Given as goal

abbrev pub invariant-loop : goal.invariant-loop
invariant-loop l = with_front l.numbers.items (numbers_at (l.count - l.counter) l.words) ≡ numbers_at l.count l.initial.words
