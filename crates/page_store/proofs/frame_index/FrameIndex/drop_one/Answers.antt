use Rattle.page_store.specs.Places.{Placed}
use Rattle.std.proofs.Common.{subst}
use Rattle.page_store.proofs.PlacesKept.{placed_pop_front}
use Rattle.page_store.proofs.frame_index.FrameIndex.drop_one.Goals as goal

pub invariant_of-self : goal.invariant_of-self
invariant_of-self c =
    placed_pop_front c.pop_front.new.self.items c.self.inside.dropped c.self.inside.places c.remove.new.self c.in-Some.number
    (subst (λ xs. Placed xs c.self.inside.dropped c.self.inside.places) c.in-Some.ensures.items c.self.invariant)
    c.remove.ensures.updates
