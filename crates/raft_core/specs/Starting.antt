-- What a node starts with.
use Rattle.std.specs.Prelude.{◌-◌, Option, Some, None, ◌++◌}
use Rattle.raft_spec.specs.Log.{LogEnd}
use Rattle.raft_spec.specs.Account.{Stored}
use Rattle.raft_spec.specs.Compaction.{compacted}
use Rattle.raft_core.specs.declared.event.StoredRaft.{StoredRaft}

-- the end of the kept snapshot; 0 and 0 for none
abbrev pub snapshot_in : Option LogEnd → LogEnd
snapshot_in None = record { index = 0; term = 0 }
snapshot_in (Some end) = end

-- what the rules' node has stored: its log is whole, and it has applied its snapshot
abbrev pub stored_in : StoredRaft → Stored
stored_in kept = record {
  term = kept.term;
  vote = kept.vote;
  log = compacted (snapshot_in kept.snapshot) (kept.first - 1) ++ kept.entries;
  snapshot = snapshot_in kept.snapshot;
  base = kept.first - 1;
  applied = (snapshot_in kept.snapshot).index;
}
