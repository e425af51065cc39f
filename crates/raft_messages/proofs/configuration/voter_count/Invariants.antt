use Rattle.std.proofs.Common.{◌≡◌, ◌+◌, ◌≤◌, drop, length}
use Rattle.raft_spec.specs.Node.{voters}
use Rattle.raft_messages.proofs.configuration.voter_count.Given as goal

abbrev pub invariant-loop-server : goal.invariant-loop-server
invariant-loop-server l = record {
  counted : l.count + length (voters (drop l.server-index l.servers)) ≡ length (voters l.servers);
  few : l.count ≤ l.server-index;
}
