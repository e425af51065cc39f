use Rattle.std.proofs.Common.{ap}
use Rattle.script_machines.specs.Machines.{fleet_of}
use Rattle.script_runner.specs.Scenes.{holds}
use Rattle.script_runner.proofs.Scening.{pages_opened, pages_late, pages_twice}
use Rattle.script_runner.proofs.script_mode.ScriptMode.open_machines.Goals as goal

pub returns-then-not-is_opening : goal.returns-then-not-is_opening
returns-then-not-is_opening g c = λ number. pages_late g.P.NodePlace.shows g.P.NodePlace.knows c.args.self.now c.in-Nodes.stage number c.args.count c.is_opening.result c.in-Nodes.is c.is_opening.ensures c.if-not-is_opening.true

pub returns-in_ok-machines-in-Nodes : goal.returns-in_ok-machines-in-Nodes
returns-in_ok-machines-in-Nodes g c = λ number.
    pages_opened g.P.NodePlace.shows g.P.NodePlace.knows c.args.self.now c.in-Nodes.stage number c.args.count c.is_opening.result (fleet_of c.in_ok-machines-in-Nodes.machines) c.none.result c.in-Nodes.is c.is_opening.ensures c.if-not-is_opening.false c.in_ok-machines-in-Nodes.ensures c.none.ensures

pub returns-in-Machines : goal.returns-in-Machines
returns-in-Machines g c = λ number. pages_twice g.P.NodePlace.shows g.P.NodePlace.knows c.args.self.now c.in-Machines.usage (fleet_of c.in-Machines.machines) number c.args.count (ap (holds g.P.NodePlace.shows) c.in-Machines.is)
