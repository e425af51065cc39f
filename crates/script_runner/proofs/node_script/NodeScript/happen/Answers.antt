use Rattle.script_cluster.specs.Clusters.{held}
use Rattle.script_runner.proofs.Steps.{event_refused, event_in}
use Rattle.script_runner.proofs.node_script.NodeScript.happen.Goals as goal

pub returns-in-Opening : goal.returns-in-Opening
returns-in-Opening g c = λ number. event_refused g.P.NodePlace.shows g.P.NodePlace.knows c.args.self.now c.in-Opening.place number c.args.event c.args.aim c.args.said.now.items c.in-Opening.is

pub returns-in-Within : goal.returns-in-Within
returns-in-Within g c = λ number.
    event_in g.P.NodePlace.shows g.P.NodePlace.knows c.args.self.now c.in-Within.cluster number c.args.event c.args.aim (held g.P.NodePlace.shows c.take.new.self) c.take.result c.args.said.now.items c.take.new.said.items c.in-Within.is c.take.ensures
