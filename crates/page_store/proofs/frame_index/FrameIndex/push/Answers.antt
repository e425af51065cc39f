use Rattle.std.proofs.Common.{◌≡◌, ◌+◌, ◌<◌, ◌^◌, true, [], ◌∷◌, ◌++◌, length, subst, sym, ap, ◌∙◌, arith}
use Rattle.std.specs.BTreeSet.{Updates}
use Rattle.page_store.specs.Places.{Placed, pair_cmp}
use Rattle.page_store.proofs.PlacesKept.{placed_push, placed_same}
use Rattle.page_store.proofs.frame_index.FrameIndex.push.Goals as goal

pub invariant_of-self-in_err-insert : goal.invariant_of-self-in_err-insert
invariant_of-self-in_err-insert c =
    placed_same c.self.inside.numbers.items c.reserve.new.self.items c.self.inside.dropped c.self.inside.places c.insert.new.self c.reserve.ensures.items c.in_err-insert.ensures.err c.self.invariant

pub invariant_of-self-2 : goal.invariant_of-self-2
invariant_of-self-2 c =
    let numbers = c.self.inside.numbers in
    let first = c.self.inside.dropped in
    let before = c.self.inside.places in
    let after = c.insert.new.self in
    let len : c.len.result ≡ length numbers.items = c.len.ensures ∙ numbers.ok.0 in
    let bound : first + length numbers.items < 2 ^ 64 = c.self.invariant.fits in
    let items : c.push_back.new.self.items ≡ numbers.items ++ c.args.number ∷ [] =
    c.in_ok-push_back.ensures.items ∙ ap (λ xs. xs ++ c.args.number ∷ []) c.reserve.ensures.items in
    let updates = subst (λ n. Updates pair_cmp before after (c.args.number, first + n) true) len c.in_ok-insert.ensures.updates in
    subst (λ xs. Placed xs first after) (sym items) (placed_push numbers.items first before after c.args.number c.self.invariant (omega (arith, c.if-place.false, len, bound)) updates)
