use Rattle.std.proofs.Common.{rules, ◌≡◌, ◌-◌, ◌+◌, ◌<◌, get_or, length, refl}
use Rattle.serve_places.proofs.Adding.{counted_anew}
use Rattle.serve_places.proofs.rooms.Rooms.set.Goals as goal

pub invariant_of-self-clause-counted : goal.invariant_of-self-clause-counted
invariant_of-self-clause-counted c =
    let items = c.args.self.now.lent.items in
    let fits : c.args.at < length items = search rules in
    let rest : c.saturating_sub-others.result ≡ c.args.self.now.common - get_or items c.args.at 0 = search rules in
    let added : c.in-Some.common ≡ c.saturating_sub-others.result + c.saturating_sub-lent.result = search rules in
    counted_anew items _ c.args.at c.saturating_sub-lent.result _ c.args.self.now.common c.saturating_sub-others.result c.in-Some.common
    c.args.self.now.counted fits refl rest added refl
