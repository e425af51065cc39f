use Rattle.std.proofs.Common.{take, drop}
use Rattle.log_commands.specs.Spelling.{HaveSizes}
use Rattle.wal_frames.specs.Writing.{Wrote}
use Rattle.database_state.specs.Logs.{plain_frames}
use Rattle.database_state.proofs.logs.put_pending_log.Given as goal

abbrev pub invariant-loop-page : goal.invariant-loop-page
invariant-loop-page l = record {
  wrote : Wrote l.fn.out.items 0 (plain_frames (take l.page-index l.pages)) l.out.items l.writer;
  sizes : HaveSizes (drop l.page-index l.pages) → HaveSizes l.pages;
}
