use Rattle.std.proofs.Common.{◌-◌, length}
use Rattle.folder_tail.proofs.Searching.{Came}
use Rattle.folder_tail.proofs.search.later_from.Given as goal

abbrev pub invariant-words : goal.invariant-words
invariant-words l = Came l.format l.next l.at l.from l.bytes l.place

abbrev pub decreases-words : goal.decreases-words
decreases-words l = length l.bytes - l.place
