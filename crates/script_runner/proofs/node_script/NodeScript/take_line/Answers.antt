use Rattle.script_runner.specs.Stages.{stands}
use Rattle.script_runner.proofs.Steps.{blank_goes, pages_refused}
use Rattle.script_runner.proofs.node_script.NodeScript.take_line.Goals as goal

pub returns-in-Blank : goal.returns-in-Blank
returns-in-Blank g c = λ number. blank_goes g.P.NodePlace.knows (stands g.P.NodePlace.shows c.args.self.now) number c.args.line c.args.said.now.items c.in-Blank.is

pub returns-in-Pages : goal.returns-in-Pages
returns-in-Pages g c = λ number. pages_refused g.P.NodePlace.knows (stands g.P.NodePlace.shows c.args.self.now) number c.in-Pages.machines c.args.line c.args.said.now.items c.in-Pages.is
