use Rattle.script_whole_nodes.proofs.Turning.{step_leads, stop_leads}
use Rattle.script_whole_nodes.proofs.node_slot.step.Goals as goal

pub returns-in-Ok-clause-comes : goal.returns-in-Ok-clause-comes
returns-in-Ok-clause-comes c =
    step_leads c.args.seat.now c.step_node.new.seat c.came.new.seat c.args.event c.args.aim c.in-Ok.outs c.outs_in.result c.came.result c.requires.seated.2 c.requires.seated.1 c.in-Ok.ensures.acts c.step_node.ensures.sits c.outs_in.ensures
    c.came.ensures.ended c.came.ensures.answers c.came.ensures.node c.came.ensures.failed c.came.ensures.disk

pub returns-in_ok-ended-in-Err-DiskFault-clause-comes : goal.returns-in_ok-ended-in-Err-DiskFault-clause-comes
returns-in_ok-ended-in-Err-DiskFault-clause-comes c =
    stop_leads c.args.seat.now c.step_node.new.seat c.fall.new.seat c.came-in-Err-DiskFault.new.seat c.args.event c.args.aim c.in-Err-DiskFault.keeps c.in_ok-ended-in-Err-DiskFault.ended c.came-in-Err-DiskFault.result c.requires.seated.2
    c.in-Err-DiskFault.ensures.stops c.in_ok-ended-in-Err-DiskFault.ensures.fall c.fall.ensures.fallen c.came-in-Err-DiskFault.ensures.ended c.came-in-Err-DiskFault.ensures.node
    c.came-in-Err-DiskFault.ensures.failed c.came-in-Err-DiskFault.ensures.disk
