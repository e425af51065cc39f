use Rattle.std.proofs.Common.{sym, subst}
use Rattle.page_store.specs.Log.{LogHolds}
use Rattle.page_store.proofs.FramesKept.{log_pop_front}
use Rattle.page_store.proofs.frame_log.FrameLog.drop_one.Goals as goal

pub invariant_of-self : goal.invariant_of-self
invariant_of-self c =
    let rest = c.pop_front.new.self.items in
    let kept = log_pop_front rest c.self.inside.index c.in-Some._frame (subst (λ fs. LogHolds fs c.self.inside.index) c.in-Some.ensures.items c.self.invariant) in
    subst (λ ns. LogHolds rest ns) (sym c.drop_first.ensures) kept
