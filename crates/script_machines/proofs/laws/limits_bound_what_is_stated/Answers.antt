use Rattle.script_machines.specs.Limits.{statements}
use Rattle.script_machines.proofs.StatedTables.{names_told, lengths_told, sum_told, allowed_told}
use Rattle.script_machines.proofs.laws.limits_bound_what_is_stated.Goals as goal

pub returns : goal.returns
returns c = record {
  names = λ commands. names_told (statements commands);
  lengths = λ commands. lengths_told (statements commands);
  sum = λ commands. sum_told (statements commands);
  allowed = λ commands. allowed_told (statements commands);
}
