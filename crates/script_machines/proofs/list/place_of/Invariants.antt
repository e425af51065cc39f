use Rattle.std.proofs.Common.{◌≡◌, ◌++◌, ℕ, take, drop}
use Rattle.script_machines.specs.Limits.{note}
use Rattle.script_machines.proofs.list.place_of.Given as goal

abbrev pub invariant-loop-place : goal.invariant-loop-place
invariant-loop-place l = (length : ℕ) → note l.table l.name length ≡ take l.place l.table ++ note (drop l.place l.table) l.name length
