use Rattle.std.proofs.Common.{◌≡◌, ◌≤◌, arith}
use Rattle.serve_traits.specs.Looping.{Taken}
use Rattle.serve_traits.proofs.Loops.{begins, goes}
use Rattle.serve_traits.proofs.looping.core_loop.Goals as goal

pub loop-init : goal.loop-init
loop-init g c = (begins g.C.Core.makes c.args.core.now (record { left = g.I.Inbox.left c.args.inbox.now; count = g.I.Inbox.taken c.args.inbox.now }) (g.O.Outbox.said c.args.outbox.now), c.requires, omega arith, omega arith)

pub loop-preserved : goal.loop-preserved
loop-preserved g c =
    let events_kept : g.I.Inbox.faults c.args.inbox.now ≤ g.I.Inbox.faults c.loop.inbox = c.loop.invariant.2 in
    let events_stay : g.I.Inbox.faults c.loop.inbox ≤ g.I.Inbox.faults c.take.new.self = c.take.ensures.cause.never_falls in
    let disk_kept : g.C.Core.faults c.args.core.now ≤ g.C.Core.faults c.loop.core = c.loop.invariant.3 in
    let disk_stays : g.C.Core.faults c.loop.core ≤ g.C.Core.faults c.step.new.self = c.step.ensures.cause.never_falls in
    let disk_rests : g.C.Core.faults c.rest.new.self ≡ g.C.Core.faults c.step.new.self = c.rest.ensures.faults in
    let before : Taken _ = record { left = g.I.Inbox.left c.args.inbox.now; count = g.I.Inbox.taken c.args.inbox.now } in
    let after : Taken _ = record { left = g.I.Inbox.left c.loop.inbox; count = g.I.Inbox.taken c.loop.inbox } in
    let later : Taken _ = record { left = g.I.Inbox.left c.take.new.self; count = g.I.Inbox.taken c.take.new.self } in (
      goes g.C.Core.makes c.args.core.now c.loop.core c.rest.new.self before after later (g.O.Outbox.said c.args.outbox.now) (g.O.Outbox.said c.loop.outbox) (g.O.Outbox.said c.put.new.self) c.loop.counter
          c.in-Ok.event c.in-Ok-step.outs c.loop.invariant.0 c.in-Ok.ensures.event c.in-Ok.ensures.count
          (c.rest.ensures.keeps c.loop.core c.in-Ok.event c.in-Ok-step.outs c.in-Ok-step.ensures.makes) c.put.ensures,
      c.rest.ensures.stands,
      omega arith,
      omega arith,
    )
