use Rattle.std.proofs.Common.{arith}
use Rattle.folder_tail.proofs.Searching.{nothing_left}
use Rattle.folder_tail.proofs.search.later_batch.Goals as goal

pub returns-then-size-rest : goal.returns-then-size-rest
returns-then-size-rest c =
    nothing_left c.args.format c.args.next c.args.at c.args.bytes.now _ _ c.passed_over-size.result (omega (arith, c.requires)) c.split_at.ensures.back c.in_ok-head.ensures c.passed_over-size.ensures (omega (arith, c.if-size-rest.true))
