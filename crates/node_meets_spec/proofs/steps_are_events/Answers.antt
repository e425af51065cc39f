use Rattle.node_meets_spec.proofs.Stepping.{steps_run_hold, stops_run_hold}
use Rattle.node_meets_spec.proofs.steps_are_events.Goals as goal

pub returns-clause-steps : goal.returns-clause-steps
returns-clause-steps g c = λ kind. steps_run_hold (g.E.Engine.meaning kind) kind

pub returns-clause-stops : goal.returns-clause-stops
returns-clause-stops g c = λ kind. stops_run_hold (g.E.Engine.meaning kind) kind
