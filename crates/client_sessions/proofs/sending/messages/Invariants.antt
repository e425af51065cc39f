use Rattle.std.proofs.Common.{◌≡◌, take}
use Rattle.client_sessions.specs.Calls.{bytes_of}
use Rattle.client_sessions.proofs.sending.messages.Given as goal

abbrev pub invariant-loop-response : goal.invariant-loop-response
invariant-loop-response l = l.messages.items ≡ bytes_of (take l.response-index l.responses)
