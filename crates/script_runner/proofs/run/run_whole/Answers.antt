use Rattle.script_runner.specs.Scenes.{holds}
use Rattle.script_runner.proofs.Finishing.{whole_done, whole_short}
use Rattle.script_runner.proofs.run.run_whole.Goals as goal

pub returns-in-Ok-close-clause-goes : goal.returns-in-Ok-close-clause-goes
returns-in-Ok-close-clause-goes g c = λ first written r.
    whole_done g.P.NodePlace.knows first (g.S.Source.left c.run_lines.new.source) written (g.K.Sink.written c.run_lines.new.sink) (g.K.Sink.written c.close.new.sink) (holds g.P.NodePlace.shows c.run_lines.new.scene) (c.in-Ok.ensures.goes first written r) c.in-Ok-close.ensures.ok

pub returns-in-Err-Sink-clause-goes : goal.returns-in-Err-Sink-clause-goes
returns-in-Err-Sink-clause-goes g c = λ first written r.
    whole_short g.P.NodePlace.knows first (g.S.Source.left c.run_lines.new.source) written (g.K.Sink.written c.run_lines.new.sink) (g.K.Sink.written c.close.new.sink) (holds g.P.NodePlace.shows c.run_lines.new.scene) (c.in-Ok.ensures.goes first written r) c.in-Err-Sink.ensures.err

pub returns-in-Err-NoMemory-clause-goes : goal.returns-in-Err-NoMemory-clause-goes
returns-in-Err-NoMemory-clause-goes g c = λ first written r.
    whole_short g.P.NodePlace.knows first (g.S.Source.left c.run_lines.new.source) written (g.K.Sink.written c.run_lines.new.sink) (g.K.Sink.written c.close.new.sink) (holds g.P.NodePlace.shows c.run_lines.new.scene) (c.in-Ok.ensures.goes first written r) c.in-Err-NoMemory.ensures.err
