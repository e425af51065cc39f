use Rattle.database_state.proofs.WrittenLogs.{pending_done}
use Rattle.database_state.proofs.logs.put_pending_log.Goals as goal

pub returns-clause-log : goal.returns-clause-log
returns-clause-log c = pending_done c.args.pages.now c.loop-page.page-index c.args.out.now.items c.loop-page.out.items c.loop-page.writer c.loop-page-test.false c.loop-page.invariant.wrote
