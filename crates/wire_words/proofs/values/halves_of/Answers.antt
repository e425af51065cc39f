use Rattle.std.proofs.Common.{get_or, refl}
use Rattle.wire_words.specs.ReadingValues.{split_halves}
use Rattle.wire_words.proofs.ReadingLoops.{halves_more, halves_done}
use Rattle.wire_words.proofs.values.halves_of.Goals as goal

pub loop-byte-preserved : goal.loop-byte-preserved
loop-byte-preserved c =
    rw (c.in_ok-push-2.ensures.items, c.in_ok-push.ensures.items) (halves_more c.loop-byte.halves.items c.args.bytes.now c.loop-byte.byte-index (get_or c.args.bytes.now c.loop-byte.byte-index 0) (split_halves c.args.bytes.now) c.loop-byte-test.true refl c.loop-byte.invariant)

pub returns : goal.returns
returns c = halves_done c.loop-byte.halves.items c.args.bytes.now c.loop-byte.byte-index (split_halves c.args.bytes.now) c.loop-byte-test.false c.loop-byte.invariant
