use Rattle.serve_safety.proofs.Stepped.{serves_by_rules_hold}
use Rattle.serve_safety.proofs.serving_is_by_the_rules.Goals as goal

pub returns : goal.returns
returns g c = serves_by_rules_hold g.D.Disk.tells g.D.Disk.states g.D.Disk.faults g.E.Engine.meaning g.E.Engine.kind g.E.Engine.told g.E.Engine.refused_openings
