use Rattle.std.proofs.Common.{◌≡◌, ◌++◌, drop}
use Rattle.raft_messages.specs.Entries.{contents_bytes}
use Rattle.raft_messages.proofs.entries.write_entry_contents.Given as goal

abbrev pub invariant-loop-entry : goal.invariant-loop-entry
invariant-loop-entry l = l.out ++ contents_bytes (drop l.entry-index l.entries) ≡ l.initial.out ++ contents_bytes l.entries
