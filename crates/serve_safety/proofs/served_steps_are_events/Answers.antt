use Rattle.serve_safety.proofs.Beside.{paths_are_runs_hold}
use Rattle.serve_safety.proofs.served_steps_are_events.Goals as goal

pub returns : goal.returns
returns g c = λ kind. paths_are_runs_hold (g.E.Engine.meaning kind) kind
