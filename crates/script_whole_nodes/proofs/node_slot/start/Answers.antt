use Rattle.std.proofs.Common.{subst}
use Rattle.script_whole_nodes.specs.Turns.{StartsBy}
use Rattle.script_whole_nodes.proofs.Turning.{none_leads, start_leads, unread_leads}
use Rattle.script_whole_nodes.proofs.node_slot.start.Goals as goal

pub returns-in-Runs-clause-comes : goal.returns-in-Runs-clause-comes
returns-in-Runs-clause-comes c =
    start_leads c.args.seat.now c.start_node.new.seat c.came.new.seat c.args.node c.args.voters c.args.aim c.in-Runs.loaded c.came.result c.requires.down
    (subst (StartsBy c.args.node c.args.voters c.args.seat.now c.start_node.new.seat) c.in-Runs.is c.in_ok-loaded.ensures.starts)
    c.came.ensures.ended c.came.ensures.answers c.came.ensures.node c.came.ensures.failed c.came.ensures.disk

pub returns-in_ok-ended-in-DiskFault-clause-comes : goal.returns-in_ok-ended-in-DiskFault-clause-comes
returns-in_ok-ended-in-DiskFault-clause-comes c =
    none_leads c.args.seat.now c.start_node.new.seat c.fall.new.seat c.came-in-DiskFault.new.seat c.args.node c.args.voters c.args.aim 0 c.in_ok-ended-in-DiskFault.ended c.came-in-DiskFault.result c.requires.down
    (subst (StartsBy c.args.node c.args.voters c.args.seat.now c.start_node.new.seat) c.in-DiskFault.is c.in_ok-loaded.ensures.starts)
    c.in_ok-ended-in-DiskFault.ensures.fall c.fall.ensures.fallen c.came-in-DiskFault.ensures.ended c.came-in-DiskFault.ensures.node c.came-in-DiskFault.ensures.failed
    c.came-in-DiskFault.ensures.disk

pub returns-in-Unreadable-clause-comes : goal.returns-in-Unreadable-clause-comes
returns-in-Unreadable-clause-comes c =
    unread_leads c.args.seat.now c.start_node.new.seat c.came-in-Unreadable.new.seat c.args.node c.args.voters c.args.aim c.came-in-Unreadable.result c.requires.down
    (subst (StartsBy c.args.node c.args.voters c.args.seat.now c.start_node.new.seat) c.in-Unreadable.is c.in_ok-loaded.ensures.starts)
    c.came-in-Unreadable.ensures.ended c.came-in-Unreadable.ensures.node c.came-in-Unreadable.ensures.failed c.came-in-Unreadable.ensures.disk
