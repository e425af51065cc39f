use Rattle.std.proofs.Common.{◌≡◌, ◌+◌, take}
use Rattle.std.specs.List.{sum_by}
use Rattle.sqlite_engine.specs.Keeping.{bytes_in}
use Rattle.sqlite_engine.proofs.open_images.left_beside.Given as goal

-- what is left, and what those so far have
abbrev pub invariant-loop-one : goal.invariant-loop-one
invariant-loop-one l = l.left + sum_by bytes_in (take l.one-index l.list) ≡ 134217728
