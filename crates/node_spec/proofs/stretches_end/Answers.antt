use Rattle.node_spec.proofs.Ends.{goes_to_end_holds, stops_between_holds, stops_within_holds}
use Rattle.node_spec.proofs.stretches_end.Goals as goal

pub returns-clause-ends : goal.returns-clause-ends
returns-clause-ends g c = λ kind. goes_to_end_holds (g.E.Engine.meaning kind) kind

pub returns-clause-between : goal.returns-clause-between
returns-clause-between g c = λ kind. stops_between_holds (g.E.Engine.meaning kind) kind

pub returns-clause-within : goal.returns-clause-within
returns-clause-within g c = λ kind. stops_within_holds (g.E.Engine.meaning kind) kind
