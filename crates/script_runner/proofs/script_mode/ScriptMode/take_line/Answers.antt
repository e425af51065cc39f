use Rattle.std.proofs.Common.{ap}
use Rattle.script_machines.specs.Machines.{fleet_of}
use Rattle.script_runner.specs.Stages.{stands}
use Rattle.script_runner.specs.Scenes.{Nodes, Machines, holds, said_in}
use Rattle.script_runner.proofs.Scening.{at_scene}
use Rattle.script_runner.proofs.script_mode.ScriptMode.take_line.Goals as goal

pub returns-in-Nodes : goal.returns-in-Nodes
returns-in-Nodes g c = λ number.
    at_scene g.P.NodePlace.shows g.P.NodePlace.knows c.args.self.now number c.args.line c.take_at_nodes.result (Nodes (stands g.P.NodePlace.shows c.in-Nodes.stage)) (Nodes (stands g.P.NodePlace.shows c.take_at_nodes.new.stage)) (said_in c.take_at_nodes.new.said) (ap (holds g.P.NodePlace.shows) c.in-Nodes.is) (c.take_at_nodes.ensures number)

pub returns-in-Machines : goal.returns-in-Machines
returns-in-Machines g c = λ number.
    at_scene g.P.NodePlace.shows g.P.NodePlace.knows c.args.self.now number c.args.line c.take_at_machines.result (Machines c.in-Machines.usage (fleet_of c.in-Machines.machines)) (Machines c.take_at_machines.new.usage (fleet_of c.take_at_machines.new.machines)) (said_in c.take_at_machines.new.said)
    (ap (holds g.P.NodePlace.shows) c.in-Machines.is) (c.take_at_machines.ensures number)
