use Rattle.std.proofs.Common.{sym, arith}
use Rattle.std.proofs.lemmas.Result.{IfOk-weaker}
use Rattle.folder_tail.proofs.HeadReads.{too_far, near}
use Rattle.folder_tail.proofs.search.head_continues.Goals as goal

pub returns-then-gap-lost : goal.returns-then-gap-lost
returns-then-gap-lost c = sym (too_far c.args.format c.args.next c.args.lost c.args.bytes.now c.args.head c.requires (omega (arith, c.if-gap-lost.true, c.saturating_sub-gap.ensures)))

pub returns : goal.returns
returns c =
    IfOk-weaker c.begins_with_batch.result _ _
    (λ found is. near c.args.format c.args.next c.args.lost c.args.bytes.now c.args.head found c.requires (omega (arith, c.if-gap-lost.false, c.saturating_sub-gap.ensures)) is) c.begins_with_batch.ensures
