use Rattle.serve_places.proofs.Adding.{fresh_numbers}
use Rattle.serve_places.proofs.numbering.Numbering.new.Goals as goal

pub returns : goal.returns
returns c = fresh_numbers 328 c.in_ok-places.places.items (c.in_ok-places.ensures.items_if_clones_equal (λ y same. same))
