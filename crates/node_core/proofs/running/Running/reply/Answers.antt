use Rattle.node_core.proofs.CoreMoves.{pushed}
use Rattle.node_core.specs.declared.outs.StepOutputs.{StepOutputs}
use Rattle.std.proofs.Common.{ℕ, List, map, ap}
use Rattle.node_core.proofs.running.Running.reply.Goals as goal

pub returns-clause-exact : goal.returns-clause-exact
returns-clause-exact c =
    pushed c.args.self.now c.reply.new.self (map (λ (m : List ℕ). (c.args.conn, m)) c.args.messages) c.in_ok-reply.ensures.said (ap (λ (o : StepOutputs). o.closed.items) c.reply.ensures.rest)
