use Rattle.std.proofs.Common.{ℕ, ap, ◌∙◌}
use Rattle.script_cluster.specs.World.{shown}
use Rattle.script_cluster.specs.Clusters.{held, world_now}
use Rattle.script_runner.proofs.Steps.{show_refused, show_one, show_none}
use Rattle.script_runner.proofs.node_script.NodeScript.show.Goals as goal

pub returns-in_default : goal.returns-in_default
returns-in_default g c = λ number. show_refused g.P.NodePlace.shows g.P.NodePlace.knows c.args.self.now c.in_default.field-0 number c.args.node c.args.said.now.items c.in_default.is

pub returns-in_ok-push-in-Some : goal.returns-in_ok-push-in-Some
returns-in_ok-push-in-Some g c = λ number.
    show_one g.P.NodePlace.shows g.P.NodePlace.knows c.args.self.now c.in-Within.cluster number c.args.node c.standing.result c.in-Some.say c.args.said.now.items c.push.new.self.items c.in-Within.is (c.standing.ensures ∙ ap (λ (n : ℕ). shown (world_now (held g.P.NodePlace.shows c.in-Within.cluster)) n) c.from.ensures) c.in-Some.is c.in_ok-push-in-Some.ensures.items

pub returns-in-None : goal.returns-in-None
returns-in-None g c = λ number. show_none g.P.NodePlace.shows g.P.NodePlace.knows c.args.self.now c.in-Within.cluster number c.args.node c.standing.result c.args.said.now.items c.in-Within.is (c.standing.ensures ∙ ap (λ (n : ℕ). shown (world_now (held g.P.NodePlace.shows c.in-Within.cluster)) n) c.from.ensures) c.in-None.is
