use Rattle.std.proofs.Common.{◌≤◌, length}
use Rattle.client.specs.Running.{started}
use Rattle.client.specs.Driving.{Going}
use Rattle.client.proofs.run.drive_over.Given as goal

-- the calls so far lead to the client as it is
abbrev pub invariant-calls : goal.invariant-calls
invariant-calls g l = record {
  going : Going (g.N.Dialer.net l.fn.net) (started l.fn.core) (g.N.Dialer.net l.net) l.run;
  room : 4096 ≤ length l.piece;
}
