use Rattle.std.proofs.Common.{◌≡◌, ◌-◌}
use Rattle.wire_msgs.specs.Bodies.{many_at, file_at}
use Rattle.wire_msgs.proofs.Lists.{with_front}
use Rattle.wire_msgs.proofs.response_body.files.Given as goal

abbrev pub invariant-loop : goal.invariant-loop
invariant-loop l = with_front l.files.items (many_at file_at (l.count - l.counter) l.words) ≡ many_at file_at l.count l.initial.words
