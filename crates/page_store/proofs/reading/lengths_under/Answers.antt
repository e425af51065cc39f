use Rattle.std.proofs.Common.{ap, ◌∙◌, arith}
use Rattle.page_store.specs.Laying.{length_of}
use Rattle.page_store.proofs.ReadPages.{length_under}
use Rattle.page_store.proofs.reading.lengths_under.Goals as goal

pub returns-clause-main : goal.returns-clause-main
returns-clause-main c =
    let log = c.args.log.now in
    ap (length_of 0) c.lengths.ensures
    ∙ length_under 0 log.pages log.lengths c.args.main.now c.args.count (omega (arith, c.if-count-eq0.false)) c.requires (omega (arith, c.requires, c.len-len.ensures.same)) c.len-len.ensures.sized

pub returns-clause-side : goal.returns-clause-side
returns-clause-side c =
    let log = c.args.log.now in
    ap (length_of 1) c.lengths.ensures
    ∙ length_under 1 log.pages log.lengths c.args.side.now c.args.count (omega (arith, c.if-count-eq0.false)) c.requires (omega (arith, c.requires, c.len-len.ensures.same)) c.len-len.ensures.sized
