use Rattle.std.proofs.Common.{◌≡◌, ◌≤◌, ◌+◌, ◌++◌, length, map, vec_len, vec_capacity}
use Rattle.wire_msgs.specs.declared.response.Response.TheVariants as responses
use Rattle.session_table.proofs.reply.tell_rows.Given as goal

abbrev pub invariant-loop-body : goal.invariant-loop-body
invariant-loop-body l = record {
  told : l.told.items ++ map (λ body. (l.conn, responses.Rows body)) l.bodies.items ≡ l.initial.told.items ++ map (λ body. (l.conn, responses.Rows body)) l.initial.bodies.items;
  len : vec_len l.told + length l.bodies.items ≡ vec_len l.initial.told + length l.initial.bodies.items;
  room : vec_len l.told + length l.bodies.items ≤ vec_capacity l.told;
  capacity : vec_capacity l.initial.told ≤ vec_capacity l.told;
}

abbrev pub decreases-loop-body : goal.decreases-loop-body
decreases-loop-body l = length l.bodies.items
