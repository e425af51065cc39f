use Rattle.std.proofs.Common.{◌≡◌, ◌+◌, false, length, subst, ◌∙◌}
use Rattle.std.specs.BTreeSet.{Updates}
use Rattle.page_store.specs.Places.{Placed, pair_cmp}
use Rattle.page_store.proofs.PlacesKept.{placed_pop_back}
use Rattle.page_store.proofs.frame_index.FrameIndex.drop_last.Goals as goal

pub invariant_of-self : goal.invariant_of-self
invariant_of-self c =
    let front = c.pop_back.new.self in
    let len : c.len.result ≡ length front.items = c.len.ensures ∙ front.ok.0 in
    placed_pop_back front.items c.self.inside.dropped c.self.inside.places c.remove.new.self c.in-Some.number
    (subst (λ xs. Placed xs c.self.inside.dropped c.self.inside.places) c.in-Some.ensures.items c.self.invariant)
    (subst (λ n. Updates pair_cmp c.self.inside.places c.remove.new.self (c.in-Some.number, c.self.inside.dropped + n) false) len c.remove.ensures.updates)
