use Rattle.node_core.proofs.Finding.{failed}
use Rattle.node_core.proofs.ExactStarts.{core_files}
use Rattle.node_core.proofs.node.Node.step.Goals as goal

pub returns-in_err-outs-clause-stops : goal.returns-in_err-outs-clause-stops
returns-in_err-outs-clause-stops g c = λ opening up has. failed c.from_residual.result (c.in_err-outs.ensures.stops opening has)

pub returns-clause-files : goal.returns-clause-files
returns-clause-files g c = core_files c.step.new.self c.databases_stand.ensures
