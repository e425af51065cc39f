use Rattle.script_whole_nodes.proofs.Turning.{kept_start}
use Rattle.script_whole_nodes.proofs.place.WholePlaceNodePlace.start.Goals as goal

pub returns-clause-comes : goal.returns-clause-comes
returns-clause-comes g c =
    kept_start g.C.EngineChoice.kind c.self.inside.seat c.args.self.now c.start.new.seat c.args.node c.args.voters c.args.aim c.start.result c.self.view_is c.self.invariant.1 c.start.ensures.comes
