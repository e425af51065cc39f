use Rattle.std.proofs.Common.{◌≡◌, take}
use Rattle.folder_tail.specs.Heads.{contents_end}
use Rattle.folder_tail.proofs.heads.contents_end.Given as goal

abbrev pub invariant-loop-head : goal.invariant-loop-head
invariant-loop-head l = l.end ≡ contents_end l.header (take l.head-index l.heads)
