use Rattle.std.proofs.Common.{◌≡◌, drop}
use Rattle.raft_spec.specs.Receiving.{terms_fit_the_wire}
use Rattle.raft_messages.proofs.range.terms_fit.Given as goal

abbrev pub invariant-loop-entry : goal.invariant-loop-entry
invariant-loop-entry l = terms_fit_the_wire (drop l.entry-index l.entries) ≡ terms_fit_the_wire l.entries
