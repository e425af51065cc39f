use Rattle.std.proofs.Common.{◌≡◌, drop}
use Rattle.wire_words.specs.ReadingValues.{values_at}
use Rattle.wire_words.proofs.ReadingLoops.{with_front}
use Rattle.wire_words.proofs.values.values_of.Given as goal

abbrev pub invariant-loop-value_type : goal.invariant-loop-value_type
invariant-loop-value_type l = with_front l.values.items (values_at l.dialect (drop l.value_type-index l.types) l.words) ≡ values_at l.dialect l.types l.initial.words
