use Rattle.dqnode.proofs.Endings.{status_ends, ends_safely}
use Rattle.dqnode.proofs.scripts.script.Goals as goal

pub returns-clause-ended : goal.returns-clause-ended
returns-clause-ended g c =
    rw c.status_for.ensures (status_ends c.args.engine c.run_over.result c.run_over.new.journal (g.S.Source.left c.args.input.now) (g.S.Source.left c.run_over.new.input) (g.K.Sink.written c.args.output.now) (g.K.Sink.written c.run_over.new.output) c.run_over.ensures.ended)

pub returns-clause-safe : goal.returns-clause-safe
returns-clause-safe g c =
    ends_safely c.args.engine (g.S.Source.left c.args.input.now) (g.S.Source.left c.run_over.new.input) (g.K.Sink.written c.args.output.now) (g.K.Sink.written c.run_over.new.output) c.run_over.result c.run_over.new.journal c.run_over.ensures.ended
