use Rattle.std.proofs.Common.{◌≤◌}
use Rattle.page_store.specs.Laying.{IsLeast}
use Rattle.page_store.specs.Log.{lengths_of}
use Rattle.page_store.proofs.frame_log.least_of.Given as goal

abbrev pub invariant-loop-from : goal.invariant-loop-from
invariant-loop-from l =
    record {
      order : l.first ≤ l.from;
      within : l.from ≤ l.last;
      main : IsLeast 0 (lengths_of l.frames.items) l.from l.last l.least.main;
      side : IsLeast 1 (lengths_of l.frames.items) l.from l.last l.least.side;
    }

abbrev pub decreases-loop-from : goal.decreases-loop-from
decreases-loop-from l = l.from
