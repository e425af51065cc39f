use Rattle.script_cluster.proofs.Linking.{shuts_found, shuts_none}
use Rattle.script_cluster.proofs.connections.shut.Goals as goal

pub returns-in-Some : goal.returns-in-Some
returns-in-Some c = shuts_found c.args.number c.in-Some.link.now c.args.links.now.entries _ (c.get_mut.follows.holds _).0 c.get_mut.ensures.ordered c.in-Some.ensures.value

pub returns-in_default : goal.returns-in_default
returns-in_default c = shuts_none c.args.number c.args.links.now _ c.get_mut.follows.holds-at-none c.in_default.ensures.value
