use Rattle.std.proofs.Common.{◌≡◌, ◌*◌, ◌-◌, ◌≤◌}
use Rattle.dq_base.specs.Changes.{changed_from}
use Rattle.sqlite_files.specs.Pairs.{both}
use Rattle.sqlite_files.proofs.compared.push_touched.Given as goal

abbrev pub invariant-loop-index : goal.invariant-loop-index
invariant-loop-index l = record {
  within : l.index ≤ l.end;
  pages : l.pages.items ≡ changed_from 2 (2 * l.index) l.before (both l.main.bytes.now l.side.bytes.now);
}

abbrev pub decreases-loop-index : goal.decreases-loop-index
decreases-loop-index l = l.end - l.index
