use Rattle.std.proofs.Common.{rules, ◌≡◌, ◌∙◌, ap, map, List, ℕ}
use Rattle.std.proofs.lemmas.Map.Iter.{iter_end}
use Rattle.std.specs.Map.Iter.{deref_pair}
use Rattle.script_cluster.specs.declared.connections.Endpoint.{Endpoint}
use Rattle.script_cluster.specs.World.{open_at}
use Rattle.script_cluster.specs.Seen.{link_of}
use Rattle.script_cluster.proofs.connections.open_at.Goals as goal

pub returns : goal.returns
returns c =
    let e : map deref_pair c.loop-number.yielded ≡ c.args.links.now.entries = search (rules, iter_end) in
    c.loop-number.invariant ∙ ap (λ (es : List (ℕ × Endpoint)). open_at (map link_of es) c.args.node) e
