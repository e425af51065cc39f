use Rattle.cluster_safety.proofs.Examples.{lone_runs_hold}
use Rattle.cluster_safety.proofs.Writes.{run_writes_holds}
use Rattle.cluster_safety.proofs.a_run_is_made.Goals as goal

pub returns-clause-quiet : goal.returns-clause-quiet
returns-clause-quiet g c = λ kind. lone_runs_hold (g.E.Engine.meaning kind) kind

pub returns-clause-writes : goal.returns-clause-writes
returns-clause-writes g c = run_writes_holds
