use Rattle.serve_places.proofs.Adding.{none_common}
use Rattle.serve_places.proofs.rooms.Rooms.new.Goals as goal

pub invariant_of-result-clause-counted : goal.invariant_of-result-clause-counted
invariant_of-result-clause-counted c = none_common 328 c.in_ok-lent.lent.items (c.in_ok-lent.ensures.items_if_clones_equal (λ y same. same))
