use Rattle.script_safety.proofs.Brought.{turns_bring_hold}
use Rattle.script_safety.proofs.Running.{turns_are_runs_hold, runs_hold_hold, nodes_are_safe_hold, laters_are_safe_hold}
use Rattle.script_safety.proofs.turns_are_runs.Goals as goal

pub returns-clause-runs : goal.returns-clause-runs
returns-clause-runs g c = λ kind. turns_are_runs_hold (g.E.Engine.meaning kind) kind

pub returns-clause-hold : goal.returns-clause-hold
returns-clause-hold g c = λ kind. runs_hold_hold (g.E.Engine.meaning kind) kind

pub returns-clause-safe : goal.returns-clause-safe
returns-clause-safe g c = λ kind. nodes_are_safe_hold (g.E.Engine.meaning kind) kind

pub returns-clause-later : goal.returns-clause-later
returns-clause-later g c = λ kind. laters_are_safe_hold (g.E.Engine.meaning kind) kind

pub returns-clause-bring : goal.returns-clause-bring
returns-clause-bring g c = λ kind. turns_bring_hold (g.E.Engine.meaning kind) kind
