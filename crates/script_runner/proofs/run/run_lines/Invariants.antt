use Rattle.std.proofs.Common.{ℕ, Option, List, ◌≤◌}
use Rattle.script_grammar.specs.Lines.{to_come}
use Rattle.script_runner.specs.Scenes.{holds}
use Rattle.script_runner.specs.Ending.{Reached}
use Rattle.script_runner.proofs.run.run_lines.Given as goal

abbrev pub invariant-loop-number : goal.invariant-loop-number
invariant-loop-number g l = record {
  reached : (first written : Option (List ℕ)) → Reached g.P.NodePlace.knows first (to_come l.fn.lines (g.S.Source.left l.fn.source)) written (g.K.Sink.written l.fn.sink) (holds g.P.NodePlace.shows l.fn.scene) 1
      → Reached g.P.NodePlace.knows first (to_come l.lines (g.S.Source.left l.source)) written (g.K.Sink.written l.sink) (holds g.P.NodePlace.shows l.scene) l.number;
  source_count : g.S.Source.faults l.fn.source ≤ g.S.Source.faults l.source;
  sink_count : g.K.Sink.faults l.fn.sink ≤ g.K.Sink.faults l.sink;
}
