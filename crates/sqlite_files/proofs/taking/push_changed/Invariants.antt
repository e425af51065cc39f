use Rattle.std.proofs.Common.{◌≡◌, ◌+◌, ◌*◌, ◌≤◌, take}
use Rattle.dq_base.specs.Changes.{changed_from}
use Rattle.sqlite_files.specs.Recording.{since, touched_count}
use Rattle.sqlite_files.proofs.taking.push_changed.Given as goal

abbrev pub invariant-loop-index : goal.invariant-loop-index
invariant-loop-index g l = record {
  pages : l.pages.items ≡ changed_from 2 (2 * l.index) l.before l.after;
  cost : l.steps ≤ l.initial.steps + (touched_count (take l.index (since 0 l.main)) + touched_count (take l.index (since 0 l.side)));
}
