use Rattle.std.proofs.Common.{◌≡◌}
use Rattle.std.specs.Prelude.{map}
use Rattle.raft_on_disk.specs.Letters.{letter}
use Rattle.raft_on_disk.proofs.letters.letters.Given as goal

abbrev pub invariant-loop-sending : goal.invariant-loop-sending
invariant-loop-sending l = l.messages.items ≡ map (letter l.me l.kept) l.yielded
