use Rattle.std.proofs.Common.{◌≡◌, ◌++◌, drop}
use Rattle.wire_words.specs.ReadingValues.{split_halves}
use Rattle.wire_words.proofs.values.halves_of.Given as goal

abbrev pub invariant-loop-byte : goal.invariant-loop-byte
invariant-loop-byte l = l.halves.items ++ split_halves (drop l.byte-index l.bytes) ≡ split_halves l.bytes
