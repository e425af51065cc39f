use Rattle.std.proofs.Common.{Option, sym, ap, ◌++◌, ◌∙◌, append-nil}
use Rattle.client_connection.specs.declared.connection.CloseReason.{CloseReason}
use Rattle.node_core.specs.Carrying.{close_of}
use Rattle.node_core.proofs.outs.StepOutputs.close.Goals as goal

pub returns-in-None-clause-said : goal.returns-in-None-clause-said
returns-in-None-clause-said c =
    sym (append-nil c.args.self.now.closed.items) ∙ ap (λ (o : Option CloseReason). c.args.self.now.closed.items ++ close_of c.args.conn o) (sym c.in-None.is)
