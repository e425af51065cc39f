use Rattle.std.proofs.Common.{refl}
use Rattle.std.proofs.lemmas.Result.{err_from_is_err_and}
use Rattle.script_cluster.specs.Run.{Line, Large}
use Rattle.script_runner.specs.Run.{Stage, step}
use Rattle.script_runner.specs.Scenes.{holds, said_in}
use Rattle.script_runner.proofs.Finishing.{ran_ok, ran_out, ran_part, ended_part, nothing_ran, breaks_printing}
use Rattle.script_runner.proofs.run.run_line.Goals as goal

pub returns-in_err-print-in-Ok-clause-err : goal.returns-in_err-print-in-Ok-clause-err
returns-in_err-print-in-Ok-clause-err g c =
    let p = err_from_is_err_and c.from_residual.result c.from_residual.ensures.1 in
    let b = g.K.Sink.written c.print.new.sink in
    rw (p.1, p.2) (breaks_printing g.P.NodePlace.knows c.in_err-print-in-Ok.field-0.0 c.args.number (λ (s : Stage). step s c.args.number c.args.line.now) (holds g.P.NodePlace.shows c.args.scene.now) (holds g.P.NodePlace.shows c.take.new.self) (g.K.Sink.written c.args.sink.now) b
    (ran_part g.P.NodePlace.knows (λ (s : Stage). step s c.args.number c.args.line.now) (holds g.P.NodePlace.shows c.args.scene.now) (holds g.P.NodePlace.shows c.take.new.self) (g.K.Sink.written c.args.sink.now) b (said_in c.take.new.said) (c.in-Ok.ensures c.args.number c.requires) c.in_err-print-in-Ok.ensures.err))

pub returns-in-Ok-clause-ok : goal.returns-in-Ok-clause-ok
returns-in-Ok-clause-ok g c = ran_ok g.P.NodePlace.knows (λ (s : Stage). step s c.args.number c.args.line.now) (holds g.P.NodePlace.shows c.args.scene.now) (holds g.P.NodePlace.shows c.take.new.self) (g.K.Sink.written c.args.sink.now) (g.K.Sink.written c.print.new.sink) (said_in c.take.new.said) (c.in-Ok.ensures c.args.number c.requires) c.in_ok-print-in-Ok.ensures.ok

pub returns-in_err-print-in-Err-NotThere-clause-err : goal.returns-in_err-print-in-Err-NotThere-clause-err
returns-in_err-print-in-Err-NotThere-clause-err g c =
    let p = err_from_is_err_and c.from_residual-in_err-print-in-Err-NotThere.result c.from_residual-in_err-print-in-Err-NotThere.ensures.1 in
    let b = g.K.Sink.written c.print-in-Err-NotThere.new.sink in
    let ends = rw c.in-Err-NotThere.field-0-is at (c.in-Err-NotThere.ensures c.args.number c.requires) in
    rw (p.1, p.2) (breaks_printing g.P.NodePlace.knows c.in_err-print-in-Err-NotThere.field-0.0 c.args.number (λ (s : Stage). step s c.args.number c.args.line.now) (holds g.P.NodePlace.shows c.args.scene.now) (holds g.P.NodePlace.shows c.take.new.self) (g.K.Sink.written c.args.sink.now) b
    (ended_part g.P.NodePlace.knows (λ (s : Stage). step s c.args.number c.args.line.now) (holds g.P.NodePlace.shows c.args.scene.now) (holds g.P.NodePlace.shows c.take.new.self) (g.K.Sink.written c.args.sink.now) b (said_in c.take.new.said) (Line c.args.number) ends c.in_err-print-in-Err-NotThere.ensures.err))

pub returns-in-Err-NotThere-clause-err : goal.returns-in-Err-NotThere-clause-err
returns-in-Err-NotThere-clause-err g c =
    let ends = rw c.in-Err-NotThere.field-0-is at (c.in-Err-NotThere.ensures c.args.number c.requires) in
    (refl, ran_out g.P.NodePlace.knows (λ (s : Stage). step s c.args.number c.args.line.now) (holds g.P.NodePlace.shows c.args.scene.now) (holds g.P.NodePlace.shows c.take.new.self) (g.K.Sink.written c.args.sink.now) (g.K.Sink.written c.print-in-Err-NotThere.new.sink) (said_in c.take.new.said) (Line c.args.number) ends c.in_ok-print-in-Err-NotThere.ensures.ok)

pub returns-in_err-print-in-Err-TooMany-clause-err : goal.returns-in_err-print-in-Err-TooMany-clause-err
returns-in_err-print-in-Err-TooMany-clause-err g c =
    let p = err_from_is_err_and c.from_residual-in_err-print-in-Err-TooMany.result c.from_residual-in_err-print-in-Err-TooMany.ensures.1 in
    let b = g.K.Sink.written c.print-in-Err-TooMany.new.sink in
    let ends = rw c.in-Err-TooMany.field-0-is at (c.in-Err-TooMany.ensures c.args.number c.requires) in
    rw (p.1, p.2) (breaks_printing g.P.NodePlace.knows c.in_err-print-in-Err-TooMany.field-0.0 c.args.number (λ (s : Stage). step s c.args.number c.args.line.now) (holds g.P.NodePlace.shows c.args.scene.now) (holds g.P.NodePlace.shows c.take.new.self) (g.K.Sink.written c.args.sink.now) b
    (ended_part g.P.NodePlace.knows (λ (s : Stage). step s c.args.number c.args.line.now) (holds g.P.NodePlace.shows c.args.scene.now) (holds g.P.NodePlace.shows c.take.new.self) (g.K.Sink.written c.args.sink.now) b (said_in c.take.new.said) Large ends c.in_err-print-in-Err-TooMany.ensures.err))

pub returns-in-Err-TooMany-clause-err : goal.returns-in-Err-TooMany-clause-err
returns-in-Err-TooMany-clause-err g c =
    let ends = rw c.in-Err-TooMany.field-0-is at (c.in-Err-TooMany.ensures c.args.number c.requires) in
    ran_out g.P.NodePlace.knows (λ (s : Stage). step s c.args.number c.args.line.now) (holds g.P.NodePlace.shows c.args.scene.now) (holds g.P.NodePlace.shows c.take.new.self) (g.K.Sink.written c.args.sink.now) (g.K.Sink.written c.print-in-Err-TooMany.new.sink) (said_in c.take.new.said) Large ends c.in_ok-print-in-Err-TooMany.ensures.ok

pub returns-in-Err-NoMemory-clause-err : goal.returns-in-Err-NoMemory-clause-err
returns-in-Err-NoMemory-clause-err g c = nothing_ran g.P.NodePlace.knows c.args.number c.args.line.now (holds g.P.NodePlace.shows c.args.scene.now) (g.K.Sink.written c.args.sink.now)

pub returns-clause-err : goal.returns-clause-err
returns-clause-err g c = nothing_ran g.P.NodePlace.knows c.args.number c.args.line.now (holds g.P.NodePlace.shows c.args.scene.now) (g.K.Sink.written c.args.sink.now)
