use Rattle.std.proofs.Common.{◌≡◌, ◌++◌, ℕ, length, map}
use Rattle.wire_msgs.specs.declared.response.Response.{Response}
use Rattle.session_gateway.proofs.carrying.responses_in.Given as goal

abbrev pub invariant-loop-conn : goal.invariant-loop-conn
invariant-loop-conn l = l.responses.items ++ map (λ (one : ℕ × Response). one.1) l.said.items ≡ map (λ (one : ℕ × Response). one.1) l.initial.said.items

abbrev pub decreases-loop-conn : goal.decreases-loop-conn
decreases-loop-conn l = length l.said.items
