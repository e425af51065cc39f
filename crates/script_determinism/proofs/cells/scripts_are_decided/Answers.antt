use Rattle.script_determinism.proofs.Deciding.{cells_broken, cells_compare, cells_front, cells_repeat}
use Rattle.script_determinism.proofs.cells.scripts_are_decided.Goals as goal

pub returns-clause-compared : goal.returns-clause-compared
returns-clause-compared c = cells_compare

pub returns-clause-front : goal.returns-clause-front
returns-clause-front c = cells_front

pub returns-clause-broken : goal.returns-clause-broken
returns-clause-broken c = cells_broken

pub returns-clause-same : goal.returns-clause-same
returns-clause-same c = cells_repeat
