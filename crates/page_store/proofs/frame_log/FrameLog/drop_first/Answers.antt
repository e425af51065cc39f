use Rattle.std.proofs.Common.{◌≡◌, min, length, ap, ◌∙◌, arith}
use Rattle.page_store.specs.Log.{without_first}
use Rattle.page_store.proofs.FramesKept.{without_min, without_more}
use Rattle.page_store.proofs.frame_log.FrameLog.drop_first.Goals as goal

pub loop-preserved : goal.loop-preserved
loop-preserved c = c.drop_one.ensures ∙ ap (without_first 1) c.loop.invariant ∙ without_more c.args.self.now c.loop.counter

pub returns : goal.returns
returns c =
    let at : c.loop.counter ≡ min c.args.count (length c.args.self.now.pages) = omega (arith, c.loop.auto.counter-end, c.loop-test.false, c.min-end.ensures, c.len.ensures.value) in
    c.loop.invariant ∙ ap (λ n. without_first n c.args.self.now) at ∙ without_min c.args.self.now c.args.count c.len.ensures.same
