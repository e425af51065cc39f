use Rattle.std.proofs.Common.{[]}
use Rattle.client_sessions.specs.Seen.{Agrees, AreValidOver}
use Rattle.session_tests.proofs.node.Node.crowd.Given as goal

abbrev pub invariant-loop-number : goal.invariant-loop-number
invariant-loop-number l = AreValidOver l.self.clients l.self.machine × Agrees [] l.self.clients l.self.machine
