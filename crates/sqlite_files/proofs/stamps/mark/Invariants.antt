use Rattle.std.proofs.Common.{◌≡◌, ℕ, ◌+◌, ◌-◌, ◌<◌, ◌≤◌, min}
use Rattle.sqlite_files.specs.Recording.{stamp_at, since, touched_count}
use Rattle.sqlite_files.proofs.stamps.mark.Given as goal

abbrev pub invariant-loop-page : goal.invariant-loop-page
invariant-loop-page l = record {
  keeps : (p : ℕ) → stamp_at l.stamps p < l.stamp → stamp_at l.initial.stamps p ≡ stamp_at l.stamps p;
  covers : (p : ℕ) → l.first ≤ p → p < l.page → stamp_at l.stamps p ≡ l.stamp;
  count : touched_count (since 0 l.stamps) ≤ touched_count (since 0 l.initial.stamps) + (min l.page l.end - l.first);
}
