use Rattle.std.proofs.Common.{◌≡◌, ◌+◌, ◌-◌, ◌≤◌, length, drop}
use Rattle.segment_store.specs.Listed.{place_for}
use Rattle.segment_store.proofs.loading.list.place_for.Given as goal

abbrev pub invariant-loop-place : goal.invariant-loop-place
invariant-loop-place l = (l.place ≤ length l.numbers) × (place_for l.number l.numbers ≡ l.place + place_for l.number (drop l.place l.numbers))

abbrev pub decreases-loop-place : goal.decreases-loop-place
decreases-loop-place l = length l.numbers - l.place
