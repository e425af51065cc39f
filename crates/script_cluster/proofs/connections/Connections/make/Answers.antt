use Rattle.script_cluster.proofs.Linking.{made_in}
use Rattle.script_cluster.proofs.connections.Connections.make.Goals as goal

pub returns-clause-made : goal.returns-clause-made
returns-clause-made c = made_in c.args.number _ c.self.inside.links.entries _ c.args.self.now c.self.view_is c.requires c.in_ok-insert.ensures.entries
