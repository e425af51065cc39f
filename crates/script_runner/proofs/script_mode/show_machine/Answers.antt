use Rattle.script_machines.specs.Machines.{fleet_of}
use Rattle.script_runner.specs.Scenes.{said_in}
use Rattle.script_runner.proofs.Scening.{machine_shown, no_machine}
use Rattle.script_runner.proofs.script_mode.show_machine.Goals as goal

pub returns-in_ok-push-in-Some : goal.returns-in_ok-push-in-Some
returns-in_ok-push-in-Some g c = λ line.
    machine_shown g.P.NodePlace.knows line c.args.usage (fleet_of c.args.machines.now) c.args.number c.standing.result c.in-Some.say c.new-told.result.items c.push.new.self.items c.standing.ensures c.in-Some.is c.new-told.ensures.items c.in_ok-push-in-Some.ensures.items

pub returns-in-None : goal.returns-in-None
returns-in-None g c = λ line. no_machine g.P.NodePlace.knows line c.args.usage (fleet_of c.args.machines.now) c.args.number c.standing.result (said_in c.args.said.now) c.requires c.standing.ensures c.in-None.is
