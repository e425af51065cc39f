use Rattle.std.proofs.Common.{◌≡◌, ◌++◌, drop}
use Rattle.raft_messages.specs.Entries.{heads_bytes, HaveHeads}
use Rattle.raft_messages.proofs.entries.write_entry_heads.Given as goal

abbrev pub invariant-loop-entry : goal.invariant-loop-entry
invariant-loop-entry l = (l.out ++ heads_bytes (drop l.entry-index l.entries) ≡ l.initial.out ++ heads_bytes l.entries) × (HaveHeads (drop l.entry-index l.entries) → HaveHeads l.entries)
