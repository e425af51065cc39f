use Rattle.std.proofs.Common.{refl, arith}
use Rattle.wire_words.specs.Stream.{stream}
use Rattle.wire_words.proofs.Holding.{holds_nothing}
use Rattle.wire_words.proofs.splitter.Splitter.new.Goals as goal

pub invariant_of-result : goal.invariant_of-result
invariant_of-result c = (holds_nothing _ _ c.nothing.ensures.head c.nothing.ensures.nothing, omega arith)

pub returns : goal.returns
unfolding stream
returns c = rw (c.nothing.ensures.nothing, c.nothing.ensures.begun) refl
