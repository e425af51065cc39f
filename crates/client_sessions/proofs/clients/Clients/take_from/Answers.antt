use Rattle.std.proofs.Common.{rules, ◌≡◌, None, refl, sym, ap, subst, ◌∙◌}
use Rattle.client_sessions.specs.Calls.{TookFrom}
use Rattle.client_sessions.specs.Seen.{clients_of}
use Rattle.client_sessions.proofs.Standing.{entries_alike}
use Rattle.client_sessions.proofs.Taking.{none_busy, none_closed, took_by}
use Rattle.client_sessions.proofs.clients.Clients.take_from.Goals as goal

pub returns-then-busy-clause-took : goal.returns-then-busy-clause-took
returns-then-busy-clause-took c = λ databases turns.
    none_busy c.args.self.now databases c.args.conn turns (sym (c.busy.ensures databases) ∙ c.if-busy.true)

pub returns-in_err-get_mut-clause-took : goal.returns-in_err-get_mut-clause-took
returns-in_err-get_mut-clause-took c = λ databases turns.
    let none : c.from_residual.result ≡ None = search rules in
    subst (TookFrom (clients_of c.args.self.now databases) (clients_of _ databases) c.args.conn turns) (sym none)
    (none_closed c.args.self.now _ databases c.args.conn turns (sym (c.busy.ensures databases) ∙ c.if-busy.false) (sym c.in_err-get_mut.ensures.value)
    (entries_alike c.args.self.now _ databases databases refl (ap (λ m. m.entries) c.get_mut.follows.holds-at-none) refl))

pub returns-clause-took : goal.returns-clause-took
returns-clause-took c = λ databases turns.
    let rest = c.next.new.self in
    took_by c.args.self.now _ databases c.args.conn turns c.in_ok-get_mut.field-0.now rest c.next.result (sym (c.busy.ensures databases) ∙ c.if-busy.false)
    c.in_ok-get_mut.ensures.value c.next.ensures refl (c.get_mut.follows.holds rest).0 ((c.get_mut.follows.holds rest).3 (search rules)).0 refl
