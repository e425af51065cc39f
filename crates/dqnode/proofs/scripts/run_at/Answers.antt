use Rattle.dqnode.proofs.Endings.{outcome_ends}
use Rattle.dqnode.proofs.scripts.run_at.Goals as goal

pub returns-clause-ended : goal.returns-clause-ended
returns-clause-ended g c =
    outcome_ends g.C.EngineChoice.kind c.run_script.result c.run_script.new.journal (g.S.Source.left c.args.input.now) (g.S.Source.left c.run_script.new.source) (g.K.Sink.written c.args.output.now) (g.K.Sink.written c.run_script.new.sink) c.run_script.ensures.ended
