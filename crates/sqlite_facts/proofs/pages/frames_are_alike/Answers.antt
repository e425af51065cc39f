use Rattle.std.proofs.Common.{arith}
use Rattle.sqlite_facts.proofs.FrameParts.{alike_from}
use Rattle.sqlite_facts.proofs.pages.frames_are_alike.Goals as goal

pub returns : goal.returns
returns c _ i low = alike_from c.args.one.now c.args.other.now i (c.loop-i.invariant.1 i (omega (arith, low, c.loop-i-test.false)))
