use Rattle.std.proofs.Common.{[]}
use Rattle.client_sessions.specs.Seen.{Agrees, AreValidOver}
use Rattle.session_tests.proofs.node.Node.take_all.Given as goal

abbrev pub invariant-loop-step : goal.invariant-loop-step
invariant-loop-step l = AreValidOver l.self.clients l.self.machine × Agrees [] l.self.clients l.self.machine
