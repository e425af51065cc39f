use Rattle.serve_safety.proofs.Begun.{start_serves_hold}
use Rattle.serve_safety.proofs.started_node_serves.Goals as goal

pub returns : goal.returns
returns g c = start_serves_hold g.D.Disk.tells g.D.Disk.states g.D.Disk.faults g.E.Engine.meaning g.E.Engine.kind g.E.Engine.told g.E.Engine.refused_openings
