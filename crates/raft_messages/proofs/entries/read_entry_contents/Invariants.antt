use Rattle.std.proofs.Common.{◌≡◌, drop}
use Rattle.raft_messages.specs.Entries.{contents_at}
use Rattle.raft_messages.proofs.Loops.{contents_so_far}
use Rattle.raft_messages.proofs.entries.read_entry_contents.Given as goal

abbrev pub invariant-loop-head : goal.invariant-loop-head
invariant-loop-head l = contents_so_far l.entries.items (drop l.head-index l.heads) l.words ≡ contents_at l.heads l.initial.words
