use Rattle.std.proofs.Common.{◌≡◌, take}
use Rattle.client_sessions.specs.Calls.{sent}
use Rattle.client_sessions.proofs.sending.messages_to.Given as goal

abbrev pub invariant-loop-item : goal.invariant-loop-item
invariant-loop-item l = l.messages.items ≡ sent (take l.item-index l.told)
