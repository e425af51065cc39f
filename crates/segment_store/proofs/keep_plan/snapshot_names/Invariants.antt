use Rattle.std.proofs.Common.{◌≡◌, take}
use Rattle.segment_store.specs.Keeping.{snapshot_names}
use Rattle.segment_store.proofs.keep_plan.snapshot_names.Given as goal

abbrev pub invariant-loop-index : goal.invariant-loop-index
invariant-loop-index l = l.names.items ≡ snapshot_names (take l.index-index l.indices)
