use Rattle.script_cluster.proofs.Linking.{known_in}
use Rattle.script_cluster.proofs.connections.Connections.is_known.Goals as goal

pub returns : goal.returns
returns c = known_in c.args.number c.self.inside.links.entries c.args.self.now c.found.result c.is_some.result c.self.view_is c.found.ensures c.is_some.ensures
