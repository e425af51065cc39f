use Rattle.std.proofs.Common.{◌≡◌, ◌≤◌}
use Rattle.serve_node.specs.Crew.{Hires}
use Rattle.serve_node.proofs.crew.read_all.Given as goal

-- this many workers were taken so far
abbrev pub invariant-loop : goal.invariant-loop
invariant-loop g l = Hires l.counter (g.H.Host.done l.initial.host) (g.H.Host.done l.host) × (g.H.Inbox.taken l.host ≡ g.H.Inbox.taken l.initial.host)
    × (g.H.Inbox.left l.host ≡ g.H.Inbox.left l.initial.host) × (g.H.Inbox.faults l.initial.host ≤ g.H.Inbox.faults l.host)
