use Rattle.script_whole_nodes.proofs.Turning.{kept_step}
use Rattle.script_whole_nodes.proofs.place.WholePlaceNodePlace.step.Goals as goal

pub returns-clause-comes : goal.returns-clause-comes
returns-clause-comes g c = kept_step g.C.EngineChoice.kind c.self.inside.seat c.args.self.now c.step.new.seat c.args.event c.args.aim c.step.result c.self.view_is c.self.invariant.1 c.step.ensures.comes
