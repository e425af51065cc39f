use Rattle.std.proofs.Common.{◌≡◌, length, sym, subst, ◌∙◌}
use Rattle.page_store.specs.Log.{LogHolds}
use Rattle.page_store.proofs.FramesKept.{log_pop_back}
use Rattle.page_store.proofs.frame_log.FrameLog.drop_last.Goals as goal

pub invariant_of-self : goal.invariant_of-self
invariant_of-self c =
    let front = c.pop_back.new.self in
    let len : length front.items ≡ c.len.result = sym (c.len.ensures ∙ front.ok.0) in
    let kept = log_pop_back front.items c.self.inside.index c.in-Some._frame c.len.result len (subst (λ fs. LogHolds fs c.self.inside.index) c.in-Some.ensures.items c.self.invariant) in
    subst (λ ns. LogHolds front.items ns) (sym c.truncate.ensures) kept
