use Rattle.std.proofs.Common.{◌≡◌, ◌≤◌, ◌+◌, min, length, map, drop}
use Rattle.std.specs.List.{sum_by}
use Rattle.script_cluster.specs.World.{Letter}
use Rattle.script_cluster.specs.Seen.{letter_seen}
use Rattle.script_cluster.proofs.mail.size_of.Given as goal

abbrev pub invariant-loop-letter : goal.invariant-loop-letter
invariant-loop-letter l = (l.size ≤ 18446744073709551615)
    × (min (l.size + sum_by (λ (letter : Letter). length letter.bytes) (map letter_seen (drop l.letter-index l.letters))) 18446744073709551615
    ≡ min (sum_by (λ (letter : Letter). length letter.bytes) (map letter_seen l.letters)) 18446744073709551615)
