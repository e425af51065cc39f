use Rattle.std.proofs.Common.{List, subst}
use Rattle.session_table.specs.declared.session.Session.{Session}
use Rattle.session_table.specs.Changing.{StandsAt, IsAbsent}
use Rattle.session_gateway.proofs.Holding.{busy_at, busy_nowhere, busy_now, held}
use Rattle.session_gateway.proofs.sessions.Gateway.busy.Goals as goal

pub returns-in-Some : goal.returns-in-Some
returns-in-Some c = λ databases.
    let sessions = c.self.inside.sessions.items in
    let stands = subst (λ (ss : List Session). StandsAt c.args.conn ss c.in-Some.place) c.as_slice.ensures.value c.in-Some.ensures in
    busy_now sessions c.self.inside.weight c.self.inside.next c.args.self.now databases c.args.conn c.is_busy.result c.self.view_is
    (busy_at (held sessions c.self.inside.weight c.self.inside.next) databases c.args.conn c.in-Some.place c.index.result.now c.is_busy.result c.self.invariant stands c.index.ensures (c.is_busy.ensures databases))

pub returns-in-None : goal.returns-in-None
returns-in-None c = λ databases.
    let sessions = c.self.inside.sessions.items in
    let none = subst (λ (ss : List Session). IsAbsent c.args.conn ss) c.as_slice.ensures.value c.in-None.ensures in
    busy_now sessions c.self.inside.weight c.self.inside.next c.args.self.now databases c.args.conn _ c.self.view_is (busy_nowhere (held sessions c.self.inside.weight c.self.inside.next) databases c.args.conn none)
