use Rattle.std.proofs.Common.{◌≡◌, ◌++◌, length}
use Rattle.wire_words.specs.Values.{codes, types_of, halves}
use Rattle.wire_words.proofs.writer.halves_of.Given as goal

abbrev pub invariant-loop-rest : goal.invariant-loop-rest
invariant-loop-rest l = l.head.items ++ halves (codes (types_of l.rest)) ≡ halves (codes (types_of l.contents))

abbrev pub decreases-loop-rest : goal.decreases-loop-rest
decreases-loop-rest l = length l.rest
