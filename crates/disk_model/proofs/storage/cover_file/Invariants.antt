use Rattle.std.proofs.Common.{◌≡◌, ◌-◌, ◌++◌, ◌≤◌, length, take, drop, vec_len}
use Rattle.disk_model.specs.Memory.{each_left, left_by_file_sync}
use Rattle.disk_model.proofs.storage.cover_file.Given as goal

abbrev pub invariant-loop-place : goal.invariant-loop-place
invariant-loop-place l = (l.place ≤ length l.calls.items) × (each_left (left_by_file_sync l.name) l.initial.calls.items ≡ take l.place l.calls.items ++ each_left (left_by_file_sync l.name) (drop l.place l.calls.items))

abbrev pub decreases-loop-place : goal.decreases-loop-place
decreases-loop-place l = vec_len l.calls - l.place
