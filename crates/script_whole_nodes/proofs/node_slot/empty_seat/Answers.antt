use Rattle.sqlite_engine.specs.Any.{any_meaning}
use Rattle.script_safety.specs.Slots.{setup_of}
use Rattle.script_whole_nodes.specs.Turns.{states_in}
use Rattle.script_whole_nodes.proofs.Living.{life_begins}
use Rattle.script_whole_nodes.proofs.node_slot.empty_seat.Goals as goal

pub returns-clause-new : goal.returns-clause-new
returns-clause-new c = λ node voters. (0, life_begins (any_meaning c.args.kind) c.args.kind (setup_of voters) node (states_in c.new.result.contents) c.new.ensures.told)
