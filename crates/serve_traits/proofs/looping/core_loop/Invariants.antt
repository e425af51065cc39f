use Rattle.std.proofs.Common.{◌≤◌}
use Rattle.serve_traits.proofs.Loops.{Going}
use Rattle.serve_traits.proofs.looping.core_loop.Given as goal

-- the step for each event that was taken is made, and no count fell
abbrev pub invariant-loop : goal.invariant-loop
invariant-loop g l =
    Going g.C.Core.makes l.initial.core l.core (record { left = g.I.Inbox.left l.initial.inbox; count = g.I.Inbox.taken l.initial.inbox }) (record { left = g.I.Inbox.left l.inbox; count = g.I.Inbox.taken l.inbox }) (g.O.Outbox.said l.initial.outbox) (g.O.Outbox.said l.outbox) l.counter
    × g.C.Core.stands l.core
    × (g.I.Inbox.faults l.initial.inbox ≤ g.I.Inbox.faults l.inbox)
    × (g.C.Core.faults l.initial.core ≤ g.C.Core.faults l.core)
