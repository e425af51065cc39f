use Rattle.std.proofs.Common.{take}
use Rattle.std.specs.List.{AllByRecursion}
use Rattle.session_gateway.proofs.Laters.{IsNotDue}
use Rattle.session_gateway.proofs.later.next_due.Given as goal

abbrev pub invariant-loop-session : goal.invariant-loop-session
invariant-loop-session l = AllByRecursion IsNotDue (take l.session-index l.sessions)
