use Rattle.std.proofs.Common.{◌≡◌}
use Rattle.serve_places.proofs.places.Places.end_all_of.Given as goal

-- the numbers stay
abbrev pub invariant-loop-at : goal.invariant-loop-at
invariant-loop-at g l = l.self.numbers ≡ l.initial.self.numbers
