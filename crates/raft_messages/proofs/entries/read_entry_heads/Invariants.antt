use Rattle.std.proofs.Common.{◌≡◌, ◌-◌}
use Rattle.raft_messages.specs.Entries.{heads_at}
use Rattle.wire_words.proofs.ReadingLoops.{with_front}
use Rattle.raft_messages.proofs.entries.read_entry_heads.Given as goal

abbrev pub invariant-loop : goal.invariant-loop
invariant-loop l = with_front l.heads.items (heads_at (l.count - l.counter) l.words) ≡ heads_at l.count l.initial.words
