use Rattle.std.proofs.Common.{◌≡◌, ◌≤◌, ◌+◌, ◌++◌, length, take}
use Rattle.raft_spec.specs.Node.{others}
use Rattle.raft_spec.specs.Progress.{rows_for}
use Rattle.raft_log.proofs.rows.PeerRows.add.Given as goal

abbrev pub invariant-loop-id : goal.invariant-loop-id
invariant-loop-id l = record {
  rows : l.self ≡ l.initial.self ++ rows_for (others (take l.id-index l.ids) l.own) l.next l.old;
  few : length l.self ≤ length l.initial.self + l.id-index;
}
