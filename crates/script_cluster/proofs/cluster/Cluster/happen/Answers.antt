use Rattle.std.proofs.Common.{ap, inl, inr}
use Rattle.script_grammar.specs.declared.events.Event.{Event}
use Rattle.script_cluster.specs.Clusters.{held, once}
use Rattle.script_cluster.proofs.Happening.{never_once}
use Rattle.script_cluster.proofs.cluster.Cluster.happen.Goals as goal

pub returns : goal.returns
returns g c =
    let h = held g.P.NodePlace.shows c.args.self.now in
    elim c.in-Settle.is [
      | inl s ↦ never_once g.P.NodePlace.knows c.args.event c.args.aim h c.args.said.now.items (ap (λ (x : Event). once x c.args.aim) s.1)
      | inr r ↦ elim r [
        | inl s ↦ never_once g.P.NodePlace.knows c.args.event c.args.aim h c.args.said.now.items (ap (λ (x : Event). once x c.args.aim) s.1)
        | inr s ↦ never_once g.P.NodePlace.knows c.args.event c.args.aim h c.args.said.now.items (ap (λ (x : Event). once x c.args.aim) s.1)
      ]
    ]
