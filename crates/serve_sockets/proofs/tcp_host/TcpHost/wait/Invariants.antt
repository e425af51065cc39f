use Rattle.std.proofs.Common.{◌≡◌}
use Rattle.serve_sockets.proofs.tcp_host.TcpHost.wait.Given as goal

-- no event was counted, and no fault
abbrev pub invariant-loop : goal.invariant-loop
invariant-loop g l = (l.self.taken ≡ l.initial.self.taken) × (l.self.faults ≡ l.initial.self.faults)
