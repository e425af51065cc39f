use Rattle.std.proofs.Common.{sym, ◌∙◌}
use Rattle.script_runner.specs.Scenes.{holds, said_in}
use Rattle.script_runner.proofs.Steps.{may_open}
use Rattle.script_runner.proofs.Scening.{line_does, no_line}
use Rattle.script_runner.proofs.script_mode.ScriptMode.take.Goals as goal

pub take_line-requires-clause-may : goal.take_line-requires-clause-may
take_line-requires-clause-may g c = may_open c.in-Some.line c.args.line.now (sym c.in-Some.is ∙ c.in_ok-line.ensures)

pub returns-in-Some : goal.returns-in-Some
returns-in-Some g c = λ number few.
    line_does g.P.NodePlace.knows number c.args.line.now c.in-Some.line c.take_line.result (holds g.P.NodePlace.shows c.args.self.now) (holds g.P.NodePlace.shows c.take_line.new.self) (said_in c.take_line.new.said) few (sym c.in-Some.is ∙ c.in_ok-line.ensures) (c.take_line.ensures number)

pub returns-in-None : goal.returns-in-None
returns-in-None g c = λ number few. no_line g.P.NodePlace.knows number c.args.line.now (holds g.P.NodePlace.shows c.args.self.now) (said_in c.args.said.now) c.requires few (sym c.in-None.is ∙ c.in_ok-line.ensures)
