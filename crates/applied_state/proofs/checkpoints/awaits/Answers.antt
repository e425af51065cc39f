use Rattle.applied_state.proofs.Waiting.{waits_here, waits_on}
use Rattle.applied_state.proofs.checkpoints.awaits.Goals as goal

pub returns-then-is_checkpoint : goal.returns-then-is_checkpoint
returns-then-is_checkpoint c = λ name w. waits_here name c.args.waiting.now c.loop-entry.entry-index c.entry-item.result _ c.is_checkpoint.result c.loop-entry-test.true c.entry-item.is (c.is_checkpoint.ensures name w) c.if-is_checkpoint.true (c.loop-entry.invariant name w)

pub loop-entry-preserved : goal.loop-entry-preserved
loop-entry-preserved c = λ name w. waits_on name c.args.waiting.now c.loop-entry.entry-index c.entry-item.result _ c.is_checkpoint.result c.loop-entry-test.true c.entry-item.is (c.is_checkpoint.ensures name w) c.if-is_checkpoint.false (c.loop-entry.invariant name w)
