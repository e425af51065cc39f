use Rattle.std.proofs.Common.{take}
use Rattle.folder_tail.specs.Last.{IsGreatest}
use Rattle.folder_tail.proofs.folder.greatest.Given as goal

abbrev pub invariant-loop-name : goal.invariant-loop-name
invariant-loop-name l = IsGreatest (take l.name-index l.names) l.best
