use Rattle.script_determinism.proofs.Running.{broken_runs_repeat, fronts_repeat, runs_compare, whole_runs_repeat}
use Rattle.script_determinism.proofs.runs.scripts_repeat.Goals as goal

pub returns-clause-compared : goal.returns-clause-compared
returns-clause-compared g c = runs_compare g.N.AreNodes.nodes

pub returns-clause-front : goal.returns-clause-front
returns-clause-front g c = fronts_repeat g.N.AreNodes.nodes

pub returns-clause-broken : goal.returns-clause-broken
returns-clause-broken g c = broken_runs_repeat g.N.AreNodes.nodes

pub returns-clause-same : goal.returns-clause-same
returns-clause-same g c = whole_runs_repeat g.N.AreNodes.nodes
