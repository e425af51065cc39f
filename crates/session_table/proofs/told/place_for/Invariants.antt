use Rattle.std.proofs.Common.{◌≡◌, ◌+◌, drop}
use Rattle.session_table.specs.Waiting.{place_for}
use Rattle.session_table.proofs.told.place_for.Given as goal

abbrev pub invariant-loop-place : goal.invariant-loop-place
invariant-loop-place l = l.place + place_for l.last (drop l.place l.waiting) ≡ place_for l.last l.waiting
