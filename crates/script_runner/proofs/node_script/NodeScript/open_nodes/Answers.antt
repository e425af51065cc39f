use Rattle.std.proofs.Common.{ℕ, [], ap, subst, ◌∙◌}
use Rattle.script_cluster.specs.Knowing.{AllKnow}
use Rattle.script_cluster.specs.Clusters.{empty_held, held}
use Rattle.script_runner.proofs.Steps.{nodes_refused, nodes_in}
use Rattle.script_runner.proofs.node_script.NodeScript.open_nodes.Goals as goal

pub returns-in_default : goal.returns-in_default
returns-in_default g c = λ number. nodes_refused g.P.NodePlace.shows g.P.NodePlace.knows c.args.self.now c.in_default.field-0 number c.args.voters c.args.spare c.args.said.now.items c.in_default.is

pub returns : goal.returns
returns g c = λ number.
    nodes_in g.P.NodePlace.shows g.P.NodePlace.knows c.args.self.now c.in-Opening.place c.in_ok-cluster.cluster number c.args.voters c.args.spare (held g.P.NodePlace.shows c.start_all-started.new.self) c.start_all-started.result c.args.said.now.items c.start_all-started.new.said.items
    c.in-Opening.is (c.in_ok-cluster.ensures.holds ∙ ap (λ (v : ℕ). empty_held v c.args.spare c.in_ok-cluster.cluster.places.items) c.new.ensures)
    (subst (λ (v : ℕ). AllKnow g.P.NodePlace.knows v c.in_ok-cluster.cluster.places.items []) c.new.ensures c.in_ok-cluster.ensures.knows) c.start_all-started.ensures
