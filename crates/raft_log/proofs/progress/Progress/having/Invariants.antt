use Rattle.std.proofs.Common.{◌≡◌, ◌≤◌, nat_le, take}
use Rattle.std.specs.List.{count_by}
use Rattle.raft_spec.specs.Progress.{has_in}
use Rattle.raft_log.proofs.progress.Progress.having.Given as goal

abbrev pub invariant-loop-voter : goal.invariant-loop-voter
invariant-loop-voter l = record {
  counted : l.having ≡ count_by (λ p. nat_le l.index (has_in l.self l.last p)) (take l.voter-index l.voters);
  few : l.having ≤ l.voter-index;
}
