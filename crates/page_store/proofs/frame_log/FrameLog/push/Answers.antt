use Rattle.std.proofs.Common.{◌≡◌, List, [], ◌∷◌, ◌++◌, sym, ap, ◌∙◌, subst}
use Rattle.page_store.specs.declared.frame_log.Frame.{Frame}
use Rattle.page_store.specs.Log.{LogHolds}
use Rattle.page_store.proofs.FramesKept.{log_push}
use Rattle.page_store.proofs.frame_log.FrameLog.push.Goals as goal

pub invariant_of-self-2 : goal.invariant_of-self-2
invariant_of-self-2 c =
    let frames = c.self.inside.frames.items in
    let index = c.self.inside.index in
    let f : Frame = record { page = c.args.page.now; lengths = c.args.lengths; back = c.next_stretch-back.result.0; least = c.next_stretch-back.result.1 } in
    let pushed : LogHolds (frames ++ f ∷ []) (index ++ f.page.number ∷ []) = log_push frames index f c.self.invariant c.bytes-bytes.ensures.size c.next_stretch-back.ensures in
    let items : c.push_back.new.self.items ≡ frames ++ f ∷ [] = c.in_ok-push_back.ensures.items ∙ ap (λ (fs : List Frame). fs ++ f ∷ []) c.reserve.ensures.items in
    subst (λ ns. LogHolds c.push_back.new.self.items ns) (sym c.in_ok-push.ensures.done) (subst (λ (fs : List Frame). LogHolds fs (index ++ f.page.number ∷ [])) (sym items) pushed)
