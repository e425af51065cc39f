use Rattle.std.proofs.Common.{◌-◌}
use Rattle.page_store.specs.Store.{newest_image}
use Rattle.database_state.specs.Logs.{pages_from, plain_frames, Continues}
use Rattle.database_state.proofs.logs.put_pages_above_one.Given as goal

abbrev pub invariant-loop-number : goal.invariant-loop-number
invariant-loop-number l = Continues (plain_frames (pages_from 2 (l.number - 2) (newest_image l.store))) l.initial.out.items l.initial.writer l.out.items l.writer
