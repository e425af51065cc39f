use Rattle.node_core.proofs.Turning.{Turned}
use Rattle.node_core.proofs.running.Running.run.Given as goal

abbrev pub invariant-loop : goal.invariant-loop
invariant-loop g l = Turned g.E.Engine.meaning g.D.Disk.tells (g.D.Disk.states l.initial.disk) (g.D.Disk.states l.disk) (g.D.Disk.faults l.initial.disk) (g.D.Disk.faults l.disk) (g.E.Engine.kind l.initial.engine) (g.E.Engine.kind l.engine) (g.E.Engine.refused_openings l.initial.engine) (g.E.Engine.refused_openings l.engine) (g.E.Engine.told l.initial.engine) (g.E.Engine.told l.engine) (g.E.Engine.known l.engine) l.initial.self l.self
