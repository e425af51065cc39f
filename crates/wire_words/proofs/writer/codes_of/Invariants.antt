use Rattle.std.proofs.Common.{◌≡◌, ◌++◌, take}
use Rattle.wire_words.specs.Values.{codes, types_of}
use Rattle.wire_words.proofs.writer.codes_of.Given as goal

abbrev pub invariant-loop-content : goal.invariant-loop-content
invariant-loop-content l = l.head.items ≡ l.count ++ codes (types_of (take l.content-index l.contents))
