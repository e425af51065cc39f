use Rattle.std.proofs.Common.{◌≡◌, map, take}
use Rattle.std.specs.List.{AllByRecursion}
use Rattle.script_cluster.specs.Knowing.{CanHold}
use Rattle.script_cluster.specs.World.{letters_of}
use Rattle.script_cluster.specs.Seen.{letter_seen}
use Rattle.script_cluster.proofs.mail.written.Given as goal

abbrev pub invariant-loop-message : goal.invariant-loop-message
invariant-loop-message l = (map letter_seen l.letters.items ≡ letters_of (take l.message-index l.messages)) × AllByRecursion CanHold (take l.message-index l.messages)
