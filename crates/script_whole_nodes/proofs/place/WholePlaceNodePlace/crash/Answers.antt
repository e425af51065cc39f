use Rattle.script_whole_nodes.proofs.Turning.{kept_crash}
use Rattle.script_whole_nodes.proofs.place.WholePlaceNodePlace.crash.Goals as goal

pub returns-clause-leads : goal.returns-clause-leads
returns-clause-leads g c = kept_crash g.C.EngineChoice.kind c.self.inside.seat c.args.self.now c.crash.new.seat c.args.pick c.crash.result c.self.view_is c.self.invariant.1 c.crash.ensures.leads
