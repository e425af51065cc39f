use Rattle.std.proofs.Common.{take, ◌≤◌}
use Rattle.std.specs.Io.KnownBytes.{Appends}
use Rattle.script_machines.specs.Printed.{printed}
use Rattle.script_runner.proofs.printing.print_machines.Given as goal

abbrev pub invariant-loop-say : goal.invariant-loop-say
invariant-loop-say g l = record {
  text : Appends (g.K.Sink.written l.fn.sink) (g.K.Sink.written l.sink) (printed (take l.say-index l.said));
  count : g.K.Sink.faults l.fn.sink ≤ g.K.Sink.faults l.sink;
}
