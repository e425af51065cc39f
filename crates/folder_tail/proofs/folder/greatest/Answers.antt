use Rattle.std.proofs.Common.{arith}
use Rattle.folder_tail.proofs.Greatest.{greatest_next, greatest_all}
use Rattle.folder_tail.proofs.folder.greatest.Goals as goal

pub loop-name-preserved : goal.loop-name-preserved
loop-name-preserved c = greatest_next c.args.names.now c.loop-name.name-index c.name-item.result c.loop-name.best _ c.loop-name-test.true c.name-item.is c.loop-name.invariant c.in_ok-best.ensures

pub returns : goal.returns
returns c = greatest_all c.args.names.now c.loop-name.name-index c.loop-name.best (omega (arith, c.loop-name-test.false)) c.loop-name.invariant
