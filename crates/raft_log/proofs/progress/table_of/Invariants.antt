use Rattle.std.proofs.Common.{◌≡◌, take}
use Rattle.raft_log.proofs.progress.table_of.Given as goal

abbrev pub invariant-loop-id : goal.invariant-loop-id
invariant-loop-id l = l.table.items ≡ take l.id-index l.ids
