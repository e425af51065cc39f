use Rattle.std.proofs.Common.{length}
use Rattle.client_sessions.proofs.Taking.{Searched}
use Rattle.client_sessions.proofs.clients.Clients.take_next.Given as goal

abbrev pub invariant-loop-conn : goal.invariant-loop-conn
invariant-loop-conn l = Searched l.fn.self l.self

abbrev pub decreases-loop-conn : goal.decreases-loop-conn
decreases-loop-conn l = length l.self.turns.items
