use Rattle.std.proofs.Common.{◌≡◌, ◌++◌, take}
use Rattle.client_sessions.specs.Calls.{told_conns}
use Rattle.client_sessions.proofs.clients.give_turns.Given as goal

abbrev pub invariant-loop-item : goal.invariant-loop-item
invariant-loop-item l = l.turns.items ≡ l.fn.turns.items ++ told_conns (take l.item-index l.told)
