use Rattle.std.proofs.Common.{[]}
use Rattle.client_sessions.specs.Seen.{Agrees, AreValidOver}
use Rattle.session_tests.proofs.node.Node.serve.Given as goal

abbrev pub invariant-loop : goal.invariant-loop
invariant-loop l = AreValidOver l.self.clients l.self.machine × Agrees [] l.self.clients l.self.machine
