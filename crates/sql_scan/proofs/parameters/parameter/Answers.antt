use Rattle.std.proofs.Common.{arith}
use Rattle.sql_scan.proofs.Numbers.{parameter_none, parameter_some}
use Rattle.sql_scan.proofs.parameters.parameter.Goals as goal

pub returns-in-empty-clause-exact : goal.returns-in-empty-clause-exact
returns-in-empty-clause-exact c = parameter_none c.args.greatest c.args.digits.now c.in_range.result (omega arith) c.in_range.ensures.exact

pub returns-in_default-clause-exact : goal.returns-in_default-clause-exact
returns-in_default-clause-exact c =
    parameter_some c.args.greatest c.capped.result c.args.digits.now c.in_range-in_default.result (omega arith) c.capped.ensures c.in_range-in_default.ensures.exact
