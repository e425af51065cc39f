use Rattle.std.proofs.Common.{◌≤◌, ◌+◌, ◌*◌, length, take}
use Rattle.std.specs.Prelude.{min}
use Rattle.raft_messages.specs.Entries.{contents_bytes}
use Rattle.store_format.proofs.batch_writing.room_for.Given as goal

abbrev pub invariant-loop-entry : goal.invariant-loop-entry
invariant-loop-entry l = min 18446744073709551615 (32 + 16 * l.entry-index + length (contents_bytes (take l.entry-index l.entries))) ≤ l.room
