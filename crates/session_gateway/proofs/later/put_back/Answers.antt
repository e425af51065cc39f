use Rattle.std.proofs.Common.{List, sym, subst, ◌∙◌}
use Rattle.std.proofs.lemmas.Bool.{false≢true}
use Rattle.session_table.specs.declared.session.Session.{Session}
use Rattle.session_table.specs.Changing.{IsAbsent, StandsAt}
use Rattle.session_gateway.proofs.Laters.{nowhere}
use Rattle.session_gateway.proofs.later.put_back.Goals as goal

pub put_at-requires-clause-apart : goal.put_at-requires-clause-apart
put_at-requires-clause-apart c = c.requires.fit.apart

pub put_at-requires-clause-place : goal.put_at-requires-clause-place
put_at-requires-clause-place c = subst (λ (ss : List Session). StandsAt c.args.conn ss c.in-Some.place) c.as_slice.ensures.value c.in-Some.ensures

pub returns-in_default-clause-table : goal.returns-in_default-clause-table
returns-in_default-clause-table c = λ databases weight there.
    absurd (false≢true (sym (nowhere databases c.args.sessions.now.items weight c.args.conn (subst (λ (ss : List Session). IsAbsent c.args.conn ss) c.as_slice.ensures.value c.in_default.ensures)) ∙ there))
