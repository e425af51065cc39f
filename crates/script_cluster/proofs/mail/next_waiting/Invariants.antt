use Rattle.std.proofs.Common.{◌≤◌, ◌-◌, length, map, take}
use Rattle.script_cluster.specs.Seen.{HaveArrived, letter_seen}
use Rattle.script_cluster.proofs.mail.next_waiting.Given as goal

abbrev pub invariant-loop-place : goal.invariant-loop-place
invariant-loop-place l = (l.place ≤ length l.letters) × (HaveArrived (take l.from (map letter_seen l.letters)) → HaveArrived (take l.place (map letter_seen l.letters)))

abbrev pub decreases-loop-place : goal.decreases-loop-place
decreases-loop-place l = length l.letters - l.place
