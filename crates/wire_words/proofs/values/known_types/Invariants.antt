use Rattle.std.proofs.Common.{◌≡◌, drop}
use Rattle.wire_words.specs.ReadingValues.{all_types}
use Rattle.wire_words.proofs.ReadingLoops.{types_so_far}
use Rattle.wire_words.proofs.values.known_types.Given as goal

abbrev pub invariant-loop-code : goal.invariant-loop-code
invariant-loop-code l = types_so_far l.dialect l.at l.types.items (drop l.code-index l.codes) ≡ all_types l.dialect l.at l.codes
