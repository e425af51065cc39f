use Rattle.script_machines.specs.Machines.{fleet_of}
use Rattle.script_grammar.specs.declared.grammar.ScriptLine.TheVariants as says
use Rattle.script_runner.specs.Scenes.{Machines, said_in}
use Rattle.script_runner.proofs.Scening.{blank_here, nodes_refused, pages_refused, as_line}
use Rattle.script_runner.proofs.script_mode.take_at_machines.Goals as goal

pub returns-in-Blank : goal.returns-in-Blank
returns-in-Blank g c = λ number. blank_here g.P.NodePlace.knows number c.args.usage.now (fleet_of c.args.machines.now) c.args.line (said_in c.args.said.now) c.in-Blank.is c.requires

pub returns-in-Nodes : goal.returns-in-Nodes
returns-in-Nodes g c = λ number. nodes_refused g.P.NodePlace.knows number c.args.usage.now (fleet_of c.args.machines.now) c.args.line c.in-Nodes.voters c.in-Nodes.spare (said_in c.args.said.now) c.in-Nodes.is c.requires

pub returns-in-Pages : goal.returns-in-Pages
returns-in-Pages g c = λ number. pages_refused g.P.NodePlace.knows number c.args.usage.now (fleet_of c.args.machines.now) c.args.line c.in-Pages.machines (said_in c.args.said.now) c.in-Pages.is c.requires

pub returns-in-Show : goal.returns-in-Show
returns-in-Show g c = λ number.
    as_line g.P.NodePlace.knows number c.args.line (says.Show c.in-Show.number) c.show_machine.result (Machines c.args.usage.now (fleet_of c.args.machines.now)) (Machines c.args.usage.now (fleet_of c.args.machines.now)) (said_in c.show_machine.new.said) c.in-Show.is (c.show_machine.ensures number)

pub returns-in-Event : goal.returns-in-Event
returns-in-Event g c = λ number.
    as_line g.P.NodePlace.knows number c.args.line (says.Event c.in-Event.event c.in-Event.aim) c.happen_at_machines.result (Machines c.args.usage.now (fleet_of c.args.machines.now)) (Machines c.happen_at_machines.new.usage (fleet_of c.happen_at_machines.new.machines)) (said_in c.happen_at_machines.new.said) c.in-Event.is
    (c.happen_at_machines.ensures number c.in-Event.aim)
