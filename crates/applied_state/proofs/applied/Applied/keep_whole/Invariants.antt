use Rattle.std.proofs.Common.{◌≡◌}
use Rattle.applied_state.proofs.applied.Applied.keep_whole.Given as goal

abbrev pub invariant-loop-name : goal.invariant-loop-name
invariant-loop-name l = l.self ≡ l.initial.self
