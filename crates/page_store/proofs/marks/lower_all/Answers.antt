use Rattle.std.proofs.Common.{map, arith}
use Rattle.page_store.specs.Marks.{lowered, lowered_mark}
use Rattle.page_store.proofs.MarkTables.{lower_all}
use Rattle.page_store.proofs.marks.lower_all.Goals as goal

pub returns : goal.returns
unfolding lowered
returns c =
    let f = lowered_mark c.args.by in
    lower_all f c.loop-mark.table (map f c.args.table.now) c.loop-mark.mark-index (omega (arith, c.loop-mark-test.false, c.loop-mark.auto.table)) c.loop-mark.invariant
