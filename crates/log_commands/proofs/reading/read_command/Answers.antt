use Rattle.std.proofs.Common.{arith}
use Rattle.log_commands.proofs.CommandLaws.{is_found, is_only}
use Rattle.log_commands.proofs.reading.read_command.Goals as goal

pub returns-clause-found : goal.returns-clause-found
returns-clause-found c = is_found c.args.bytes.now c.whole_command.result (λ i. omega (arith, c.type_inv.bytes i)) c.whole_command.ensures.exact

pub returns-clause-only : goal.returns-clause-only
returns-clause-only c = is_only c.args.bytes.now c.whole_command.result c.whole_command.ensures.exact
