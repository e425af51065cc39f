use Rattle.node_spec.proofs.Telling.{tells_on, tells_to_end, tells_to_stop}
use Rattle.node_spec.proofs.told_voters_join.Goals as goal

pub returns-clause-on : goal.returns-clause-on
returns-clause-on c = tells_on

pub returns-clause-ends : goal.returns-clause-ends
returns-clause-ends c = tells_to_end

pub returns-clause-stops : goal.returns-clause-stops
returns-clause-stops c = tells_to_stop
