use Rattle.std.proofs.Common.{List, refl, sym, subst}
use Rattle.script_grammar.specs.Lines.{Cursor, to_come}
use Rattle.script_cluster.specs.Outcomes.{Item}
use Rattle.script_runner.specs.Stages.{AtStart}
use Rattle.script_runner.specs.Scenes.{Nodes}
use Rattle.script_runner.specs.Ending.{Reached, Stopped}
use Rattle.script_runner.proofs.Running.{reached_start, short_start}
use Rattle.script_runner.proofs.Finishing.{ended_ok, ended_part_of, not_begun}
use Rattle.script_runner.proofs.run.run_script.Goals as goal

pub returns-in-Err-clause-ended : goal.returns-in-Err-clause-ended
returns-in-Err-clause-ended g c = not_begun g.P.NodePlace.knows (g.S.Source.left c.args.source.now) (g.S.Source.left c.args.source.now) (g.K.Sink.written c.args.sink.now) (short_start g.P.NodePlace.knows (g.S.Source.left c.args.source.now) (g.K.Sink.written c.args.sink.now))

pub returns-in-Ok-print_fault-clause-ended : goal.returns-in-Ok-print_fault-clause-ended
returns-in-Ok-print_fault-clause-ended g c =
    let start = subst (λ (cursor : Cursor). Reached g.P.NodePlace.knows (g.S.Source.left c.args.source.now) (to_come cursor (g.S.Source.left c.args.source.now)) (g.K.Sink.written c.args.sink.now) (g.K.Sink.written c.args.sink.now) (Nodes AtStart) 1) (sym c.in-Ok.ensures) (reached_start g.P.NodePlace.knows (g.S.Source.left c.args.source.now) (g.K.Sink.written c.args.sink.now)) in
    let stopped = subst (λ (journal : List Item). Stopped g.P.NodePlace.knows c.run_whole-outcome.result journal (g.S.Source.left c.args.source.now) (g.S.Source.left c.run_whole-outcome.new.source) (g.K.Sink.written c.args.sink.now) (g.K.Sink.written c.run_whole-outcome.new.sink)) (sym c.into_journal.ensures) (c.run_whole-outcome.ensures.goes (g.S.Source.left c.args.source.now) (g.K.Sink.written c.args.sink.now) start) in
    ended_ok g.P.NodePlace.knows c.into_journal.result (g.S.Source.left c.args.source.now) (g.S.Source.left c.run_whole-outcome.new.source) (g.K.Sink.written c.args.sink.now) (g.K.Sink.written c.run_whole-outcome.new.sink) (g.K.Sink.written c.print_fault.new.sink) c.run_whole-outcome.result stopped c.in-Ok-print_fault.ensures.ok

pub returns-in-Err-Sink-clause-ended : goal.returns-in-Err-Sink-clause-ended
returns-in-Err-Sink-clause-ended g c =
    let start = subst (λ (cursor : Cursor). Reached g.P.NodePlace.knows (g.S.Source.left c.args.source.now) (to_come cursor (g.S.Source.left c.args.source.now)) (g.K.Sink.written c.args.sink.now) (g.K.Sink.written c.args.sink.now) (Nodes AtStart) 1) (sym c.in-Ok.ensures) (reached_start g.P.NodePlace.knows (g.S.Source.left c.args.source.now) (g.K.Sink.written c.args.sink.now)) in
    let stopped = subst (λ (journal : List Item). Stopped g.P.NodePlace.knows c.run_whole-outcome.result journal (g.S.Source.left c.args.source.now) (g.S.Source.left c.run_whole-outcome.new.source) (g.K.Sink.written c.args.sink.now) (g.K.Sink.written c.run_whole-outcome.new.sink)) (sym c.into_journal.ensures) (c.run_whole-outcome.ensures.goes (g.S.Source.left c.args.source.now) (g.K.Sink.written c.args.sink.now) start) in
    ended_part_of g.P.NodePlace.knows c.into_journal.result (g.S.Source.left c.args.source.now) (g.S.Source.left c.run_whole-outcome.new.source) (g.K.Sink.written c.args.sink.now) (g.K.Sink.written c.run_whole-outcome.new.sink) (g.K.Sink.written c.print_fault.new.sink) c.run_whole-outcome.result stopped (c.in-Err-Sink.ensures.only refl) c.in-Err-Sink.ensures.err

pub returns-clause-ended : goal.returns-clause-ended
returns-clause-ended g c =
    let start = subst (λ (cursor : Cursor). Reached g.P.NodePlace.knows (g.S.Source.left c.args.source.now) (to_come cursor (g.S.Source.left c.args.source.now)) (g.K.Sink.written c.args.sink.now) (g.K.Sink.written c.args.sink.now) (Nodes AtStart) 1) (sym c.in-Ok.ensures) (reached_start g.P.NodePlace.knows (g.S.Source.left c.args.source.now) (g.K.Sink.written c.args.sink.now)) in
    let stopped = subst (λ (journal : List Item). Stopped g.P.NodePlace.knows c.run_whole-outcome.result journal (g.S.Source.left c.args.source.now) (g.S.Source.left c.run_whole-outcome.new.source) (g.K.Sink.written c.args.sink.now) (g.K.Sink.written c.run_whole-outcome.new.sink)) (sym c.into_journal.ensures) (c.run_whole-outcome.ensures.goes (g.S.Source.left c.args.source.now) (g.K.Sink.written c.args.sink.now) start) in
    ended_part_of g.P.NodePlace.knows c.into_journal.result (g.S.Source.left c.args.source.now) (g.S.Source.left c.run_whole-outcome.new.source) (g.K.Sink.written c.args.sink.now) (g.K.Sink.written c.run_whole-outcome.new.sink) (g.K.Sink.written c.print_fault.new.sink) c.run_whole-outcome.result stopped (c.in-Err-NoMemory.ensures.only refl) c.in-Err-NoMemory.ensures.err
