use Rattle.script_runner.specs.Stages.{stands}
use Rattle.script_runner.proofs.Scening.{nodes_done}
use Rattle.script_runner.proofs.script_mode.take_at_nodes.Goals as goal

pub returns : goal.returns
returns g c = λ number.
    nodes_done g.P.NodePlace.knows number c.args.line c.take_line-done.result (stands g.P.NodePlace.shows c.args.stage.now) (stands g.P.NodePlace.shows c.take_line-done.new.self) c.new-told.result.items c.take_line-done.new.said.items c.new-told.ensures.items c.requires.nodes
    (c.take_line-done.ensures number)
