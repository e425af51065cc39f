use Rattle.std.proofs.Common.{List, sym, ap, subst, ◌∙◌}
use Rattle.session_spec.specs.Sessions.{lent_query}
use Rattle.session_table.specs.declared.session.Session.{Session}
use Rattle.session_table.specs.Changing.{IsAbsent, StandsAt}
use Rattle.session_table.specs.Table.{table_of}
use Rattle.session_outcomes.specs.Reading.{read_named}
use Rattle.session_gateway.proofs.Laters.{done_none, done_told, later_there, not_lent, nothing_nowhere}
use Rattle.session_gateway.proofs.later.read_done.Goals as goal

pub returns-in_default-clause-done : goal.returns-in_default-clause-done
returns-in_default-clause-done c = λ databases weight.
    let none : IsAbsent c.args.conn c.args.sessions.now.items = subst (λ (ss : List Session). IsAbsent c.args.conn ss) c.as_slice.ensures.value c.in_default.ensures in
    done_none (table_of databases c.args.sessions.now.items weight) c.args.conn _ (read_named c.args.read) (ap lent_query (nothing_nowhere databases c.args.sessions.now.items weight c.args.conn none))

pub returns-then-not-is_lent-clause-done : goal.returns-then-not-is_lent-clause-done
returns-then-not-is_lent-clause-done c = λ databases weight.
    let at : StandsAt c.args.conn c.args.sessions.now.items c.in-Some.place = subst (λ (ss : List Session). StandsAt c.args.conn ss c.in-Some.place) c.as_slice.ensures.value c.in-Some.ensures in
    done_none (table_of databases c.args.sessions.now.items weight) c.args.conn _ (read_named c.args.read)
    (not_lent _ _ (ap lent_query (later_there databases c.args.sessions.now.items weight c.args.conn c.in-Some.place c.index.result.now c.requires.table.apart at c.index.ensures)) (sym c.is_lent.ensures ∙ c.if-not-is_lent.true))

pub returns-clause-done : goal.returns-clause-done
returns-clause-done c = λ databases weight.
    let at : StandsAt c.args.conn c.args.sessions.now.items c.in-Some.place = subst (λ (ss : List Session). StandsAt c.args.conn ss c.in-Some.place) c.as_slice.ensures.value c.in-Some.ensures in
    done_told (table_of databases c.args.sessions.now.items weight) (table_of databases c.take_later-query.new.sessions.items weight) c.args.conn _ _ (read_named c.args.read) c.in-Some-2.act
    (ap lent_query (later_there databases c.args.sessions.now.items weight c.args.conn c.in-Some.place c.index.result.now c.requires.table.apart at c.index.ensures)) (sym c.is_lent.ensures ∙ c.if-not-is_lent.false)
    (c.take_later-query.ensures.table databases weight) (sym c.in-Some-2.is ∙ c.in_ok-act.ensures)
