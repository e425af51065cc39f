use Rattle.std.proofs.Common.{drop, ◌≤◌}
use Rattle.dqnode.specs.Generating.{ShownSoFar}
use Rattle.dqnode.proofs.generating.put_shown.Given as goal

abbrev pub invariant-loop-byte : goal.invariant-loop-byte
invariant-loop-byte g l = record {
  shown : ShownSoFar (g.K.Sink.written l.fn.output) (g.K.Sink.written l.output) l.line.items (drop l.byte-index l.text) l.text;
  count : g.K.Sink.faults l.fn.output ≤ g.K.Sink.faults l.output;
}
