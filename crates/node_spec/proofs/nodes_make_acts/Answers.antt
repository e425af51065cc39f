use Rattle.node_spec.proofs.Acts.{steps_fit_hold, stops_fit_hold, starts_fit_hold}
use Rattle.node_spec.proofs.nodes_make_acts.Goals as goal

pub returns-clause-steps : goal.returns-clause-steps
returns-clause-steps g c = λ kind. steps_fit_hold (g.E.Engine.meaning kind) kind

pub returns-clause-stops : goal.returns-clause-stops
returns-clause-stops g c = λ kind. stops_fit_hold (g.E.Engine.meaning kind) kind

pub returns-clause-starts : goal.returns-clause-starts
returns-clause-starts g c = λ kind. starts_fit_hold (g.E.Engine.meaning kind) kind
