use Rattle.std.proofs.Common.{◌≡◌, ◌-◌}
use Rattle.wire_msgs.specs.Bodies.{many_at, server_at}
use Rattle.wire_msgs.proofs.Lists.{with_front}
use Rattle.wire_msgs.proofs.response_body.servers.Given as goal

abbrev pub invariant-loop : goal.invariant-loop
invariant-loop l = with_front l.servers.items (many_at (server_at l.roles) (l.count - l.counter) l.words) ≡ many_at (server_at l.roles) l.count l.initial.words
