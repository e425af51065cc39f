use Rattle.std.proofs.Common.{◌≡◌, ◌≤◌, take}
use Rattle.std.specs.List.{count_by}
use Rattle.raft_spec.specs.Node.{among}
use Rattle.raft_messages.proofs.votes.is_majority.Given as goal

abbrev pub invariant-loop-voter : goal.invariant-loop-voter
invariant-loop-voter l = record {
  counted : l.granted ≡ count_by (among l.grants) (take l.voter-index l.voters);
  few : l.granted ≤ l.voter-index;
}
