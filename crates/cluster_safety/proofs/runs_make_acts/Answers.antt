use Rattle.cluster_safety.proofs.Runs.{runs_go_on_hold, runs_make_acts_hold}
use Rattle.cluster_safety.proofs.runs_make_acts.Goals as goal

pub returns-clause-acts : goal.returns-clause-acts
returns-clause-acts g c = λ kind. runs_make_acts_hold (g.E.Engine.meaning kind) kind

pub returns-clause-later : goal.returns-clause-later
returns-clause-later g c = λ kind. runs_go_on_hold (g.E.Engine.meaning kind) kind
