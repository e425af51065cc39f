use Rattle.std.proofs.Common.{◌≡◌, ◌≤◌, length}
use Rattle.raft_spec.specs.Compaction.{whole_log}
use Rattle.raft_log.proofs.Commits.{found_to}
use Rattle.raft_log.proofs.progress.Progress.commit_index.Given as goal

abbrev pub invariant-loop-index : goal.invariant-loop-index
invariant-loop-index l = record {
  within : l.index ≤ length (whole_log l.log);
  same : found_to l.self (whole_log l.log) l.term l.commit (length (whole_log l.log)) ≡ found_to l.self (whole_log l.log) l.term l.commit l.index;
}

abbrev pub decreases-loop-index : goal.decreases-loop-index
decreases-loop-index l = l.index
