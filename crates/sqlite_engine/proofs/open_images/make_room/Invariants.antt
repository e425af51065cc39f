use Rattle.std.proofs.Common.{◌≡◌, ◌+◌, length}
use Rattle.std.specs.List.{All, Contains}
use Rattle.sqlite_engine.proofs.open_images.make_room.Given as goal

-- those that are left are of the list, and with each step one goes
abbrev pub invariant-loop : goal.invariant-loop
invariant-loop l = All (Contains l.fn.list.items) l.list.items × (length l.list.items + l.counter ≡ l.end)
