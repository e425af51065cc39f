use Rattle.std.proofs.Common.{sym, ap, ◌∙◌}
use Rattle.session_spec.specs.Limits.{other_holds}
use Rattle.session_spec.specs.Machine.{machine_of}
use Rattle.session_spec.specs.Requests.{does}
use Rattle.session_table.specs.Table.{session_of, table_of}
use Rattle.session_outcomes.proofs.Flights.{is_locked, begins_at_once, begins_later}
use Rattle.session_outcomes.proofs.plain.beginning.Goals as goal

pub returns-then-not-at_once-clause-comes : goal.returns-then-not-at_once-clause-comes
unfolding does
returns-then-not-at_once-clause-comes c = λ v databases weight answers. begins_later v (machine_of databases) (table_of databases c.args.sessions.now weight) c.args.conn (session_of databases c.args.session.now) c.args.at_once c.if-not-at_once.true (c.requires.outside databases) (c.requires.open databases)

pub returns-then-other_holds-clause-comes : goal.returns-then-other_holds-clause-comes
unfolding does
returns-then-other_holds-clause-comes c = λ v databases weight answers.
    is_locked v (machine_of databases) (table_of databases c.args.sessions.now weight) c.args.conn (session_of databases c.args.session.now) c.args.at_once c.if-not-at_once.false
    (ap (other_holds (table_of databases c.args.sessions.now weight) c.args.conn) (sym c.name_of.ensures) ∙ sym (c.other_holds.ensures databases weight) ∙ c.if-other_holds.true)

pub returns-clause-comes : goal.returns-clause-comes
unfolding does
returns-clause-comes c = λ v databases weight answers.
    begins_at_once v (machine_of databases) (table_of databases c.args.sessions.now weight) c.args.conn (session_of databases c.args.session.now) c.args.at_once c.if-not-at_once.false
    (ap (other_holds (table_of databases c.args.sessions.now weight) c.args.conn) (sym c.name_of.ensures) ∙ sym (c.other_holds.ensures databases weight) ∙ c.if-other_holds.false)
    (c.requires.outside databases) (c.requires.open databases)
