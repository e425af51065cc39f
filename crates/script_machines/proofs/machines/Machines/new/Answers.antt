use Rattle.std.proofs.Common.{◌∙◌}
use Rattle.script_machines.proofs.Standings.{idle_more}
use Rattle.script_machines.proofs.machines.Machines.new.Goals as goal

pub loop-made-preserved : goal.loop-made-preserved
loop-made-preserved c = c.in_ok-push.ensures.items ∙ rw (c.loop-made.invariant, c.new.ensures) (idle_more c.loop-made._made)
