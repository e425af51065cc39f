-- That all places start only adds to what happened in a world.
use Rattle.std.proofs.Common.{ℕ, zero, suc}
use Rattle.script_grammar.specs.declared.grammar.FaultTarget.TheVariants.{Nothing}
use Rattle.script_cluster.specs.World.{starts, all_start}
use Rattle.script_runner.proofs.Growing.{same_turns, AlwaysGrows, onward_grows, starts_grows}

pub start_grows : (count n : ℕ) → AlwaysGrows (all_start count n)
start_grows zero n w = same_turns w.turns
start_grows (suc count) n w = onward_grows (all_start count (suc n)) (start_grows count (suc n)) w (starts n Nothing w) (starts n Nothing w).halt (starts_grows n Nothing w)
