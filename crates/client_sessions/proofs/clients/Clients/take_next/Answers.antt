use Rattle.std.proofs.Common.{rules, ◌≡◌, ◌<◌, true, false, length, deque_len, refl}
use Rattle.client_sessions.proofs.Taking.{searched_start, searched_more, searched_end, searched_found, fewer}
use Rattle.client_sessions.proofs.clients.Clients.take_next.Goals as goal

pub loop-conn-init : goal.loop-conn-init
loop-conn-init c = searched_start c.args.self.now

pub returns-in-Some-take_from-clause-took : goal.returns-in-Some-take_from-clause-took
returns-in-Some-take_from-clause-took c = λ databases.
    let some : 0 < length c.loop-conn.self.turns.items = search rules in
    searched_found c.args.self.now c.loop-conn.self c.take_from.new.self databases c.in-Some.field-0.now c.in-Some-take_from.message c.loop-conn.invariant some c.in-Some.ensures.lookup (c.in-Some-take_from.ensures.took databases)

pub loop-conn-smaller : goal.loop-conn-smaller
loop-conn-smaller c =
    let some : 0 < length c.loop-conn.self.turns.items = search rules in
    fewer c.loop-conn.self.turns.items _ _ c.take_from.ensures.turns c.pop_front.ensures.rest some

pub loop-conn-preserved : goal.loop-conn-preserved
loop-conn-preserved c =
    let some : 0 < length c.loop-conn.self.turns.items = search rules in
    searched_more c.args.self.now c.loop-conn.self c.take_from.new.self _ c.in-Some.field-0.now c.loop-conn.invariant some c.in-Some.ensures.lookup c.in_default-take_from.ensures.took c.take_from.ensures.gateway c.take_from.ensures.turns
    refl refl c.pop_front.ensures.rest

pub returns-clause-took : goal.returns-clause-took
returns-clause-took c = λ databases.
    searched_end c.args.self.now _ databases c.loop-conn.invariant (λ some.
    let long : 0 < deque_len c.loop-conn.self.turns = search (rules, some) in
    let wrong : false ≡ true = c.in_default.ensures.variant.1 long in
    absurd cc)
