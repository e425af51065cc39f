use Rattle.std.proofs.Common.{arith, ◌∙◌}
use Rattle.applied_state.proofs.Waiting.{is_spelled}
use Rattle.applied_state.proofs.checkpoints.is_same.Goals as goal

pub returns : goal.returns
returns c = λ name w. c.are_same.ensures ∙ is_spelled c.args.bytes.now c.args.checkpoint.now name (λ i. omega (arith, c.type_inv.bytes i)) w
