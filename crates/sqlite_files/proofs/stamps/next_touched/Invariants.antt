use Rattle.std.proofs.Common.{◌≡◌, ℕ, ◌<◌, ◌≤◌, false}
use Rattle.sqlite_files.specs.Recording.{since, is_touched}
use Rattle.sqlite_files.proofs.stamps.next_touched.Given as goal

abbrev pub invariant-loop-page : goal.invariant-loop-page
invariant-loop-page l = (p : ℕ) → l.from ≤ p → p < l.page → is_touched (since l.mark l.stamps) p ≡ false
