use Rattle.std.proofs.Common.{◌≡◌, ◌≤◌}
use Rattle.std.specs.Io.KnownBytes.{Appends}
use Rattle.script_generator.specs.Generated.{number_at, script_text}
use Rattle.script_generator.proofs.generating.generate.Given as goal

-- the script of the writes so far was written
abbrev pub invariant-loop-done : goal.invariant-loop-done
invariant-loop-done g l = record {
  written : Appends (g.K.Sink.written l.fn.sink) (g.K.Sink.written l.sink) (script_text l.number l.done);
  last : l.last ≡ number_at l.number l.done;
  count : g.K.Sink.faults l.fn.sink ≤ g.K.Sink.faults l.sink;
}
