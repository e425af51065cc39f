use Rattle.std.proofs.Common.{◌≡◌, ◌-◌, length, ap, ◌∙◌, arith}
use Rattle.page_store.specs.Log.{Log, first_of}
use Rattle.page_store.proofs.FramesKept.{first_all, first_more, first_rest}
use Rattle.page_store.proofs.frame_log.FrameLog.truncate.Goals as goal

pub loop-init : goal.loop-init
loop-init c = first_all c.args.self.now c.len.ensures.same

pub loop-preserved : goal.loop-preserved
loop-preserved c = c.drop_last.ensures ∙ ap (λ (g : Log). first_of (length g.pages - 1) g) c.loop.invariant ∙ first_more c.args.self.now c.loop.counter c.len.ensures.same

pub returns : goal.returns
returns c =
    let n = length c.args.self.now.pages in
    let at : c.loop.counter ≡ n - c.args.count = omega (arith, c.loop.auto.counter-end, c.loop-test.false, c.saturating_sub-end.ensures, c.len.ensures.value) in
    c.loop.invariant ∙ ap (λ k. first_of (n - k) c.args.self.now) at ∙ first_rest c.args.self.now c.args.count c.len.ensures.same
