use Rattle.node_meets_spec.proofs.Starting.{starts_run_hold, start_stops_run_hold, starts_keep_hold, crashes_run_hold}
use Rattle.node_meets_spec.proofs.starts_are_events.Goals as goal

pub returns-clause-starts : goal.returns-clause-starts
returns-clause-starts g c = λ kind. starts_run_hold (g.E.Engine.meaning kind) kind

pub returns-clause-stops : goal.returns-clause-stops
returns-clause-stops g c = λ kind. start_stops_run_hold (g.E.Engine.meaning kind) kind

pub returns-clause-keeps : goal.returns-clause-keeps
returns-clause-keeps g c = starts_keep_hold

pub returns-clause-crashes : goal.returns-clause-crashes
returns-clause-crashes g c = λ kind. crashes_run_hold (g.E.Engine.meaning kind) kind
