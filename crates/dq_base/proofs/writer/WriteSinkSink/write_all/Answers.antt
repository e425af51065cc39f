use Rattle.std.proofs.Common.{drop, arith}
use Rattle.std.proofs.lemmas.List.{take_all, length-drop}
use Rattle.dq_base.proofs.ContentLaws.{AppendsUpTo-piece}
use Rattle.dq_base.proofs.writer.WriteSinkSink.write_all.Goals as goal

pub pieces-preserved : goal.pieces-preserved
pieces-preserved g c =
    let rest = c.pieces.rest.now in
    let n = c.in_ok-count.count in (
      omega (arith, c.pieces.invariant.0, c.in_ok-count.ensures.cause.never_falls),
      AppendsUpTo-piece _ _ _ _ rest _ n c.pieces.invariant.1 c.in_ok-count.ensures.ok (take_all _ (drop n rest) (omega (arith, length-drop n rest))),
    )
