use Rattle.std.proofs.Common.{None, option_map, sym, ap, ◌∙◌}
use Rattle.session_spec.specs.Requests.{with_session, with_later}
use Rattle.session_spec.specs.Sessions.{Session as RuleSession}
use Rattle.session_table.specs.declared.session.Session.{Session}
use Rattle.session_table.specs.Named.{later_named}
use Rattle.session_table.specs.Table.{session_of, table_of, pin_of}
use Rattle.session_table.specs.Working.{work_of}
use Rattle.session_table.proofs.Placing.{put_table, keep_pins, was_own, set_is_table, session_there, its_own}
use Rattle.session_table.proofs.Works.{same_works}
use Rattle.session_gateway.proofs.Laters.{set_stands}
use Rattle.session_gateway.proofs.later.set_aside.Goals as goal

pub returns-clause-later : goal.returns-clause-later
returns-clause-later c = λ databases weight. ap (option_map later_named) c.take.ensures.later ∙ ap (λ (r : RuleSession). r.later) (ap (session_of databases) c.index_mut.ensures.value ∙ sym (session_there databases c.args.sessions.now.items weight c.args.conn c.args.place c.index_mut.result.now c.requires.apart c.requires.place))

pub returns-clause-place : goal.returns-clause-place
returns-clause-place c = set_stands c.args.sessions.now.items c.args.place c.args.conn c.take.new.session c.requires.place (sym (was_own c.args.sessions.now.items c.args.place c.args.conn c.requires.apart c.requires.place c.index_mut.result.now c.take.new.session c.index_mut.ensures.value (ap (λ (s : Session). s.conn) c.take.ensures.left)) ∙ c.requires.place.own c.take.new.session)

pub returns-clause-table : goal.returns-clause-table
returns-clause-table c = λ databases weight.
    put_table c.args.sessions.now.items c.args.place c.args.conn c.requires.apart c.requires.place c.index_mut.result.now c.take.new.session c.index_mut.ensures.value (ap (λ (s : Session). s.conn) c.take.ensures.left) databases weight
    (with_later (session_of databases c.index_mut.result.now) None) (ap (session_of databases) c.take.ensures.left)
    ∙ ap (λ (r : RuleSession). with_session (table_of databases c.args.sessions.now.items weight) c.args.conn (with_later r None)) (ap (session_of databases) c.index_mut.ensures.value ∙ sym (session_there databases c.args.sessions.now.items weight c.args.conn c.args.place c.index_mut.result.now c.requires.apart c.requires.place))

pub returns-clause-pins : goal.returns-clause-pins
returns-clause-pins c =
    keep_pins c.args.sessions.now.items c.args.place c.args.conn c.requires.apart c.requires.place c.index_mut.result.now c.take.new.session c.index_mut.ensures.value (ap (λ (s : Session). s.conn) c.take.ensures.left)
    (ap (λ (s : Session). pin_of s.transaction) c.take.ensures.left)

pub returns-clause-works : goal.returns-clause-works
returns-clause-works c =
    same_works c.args.sessions.now.items c.args.place c.take.new.session
    (ap (λ (s : Session). work_of s.transaction) (its_own c.args.sessions.now.items c.args.place c.args.conn c.requires.apart c.requires.place c.index_mut.result.now c.take.new.session c.index_mut.ensures.value (ap (λ (s : Session). s.conn) c.take.ensures.left))
    ∙ sym (ap (λ (s : Session). work_of s.transaction) c.take.ensures.left))

pub returns-clause-fit : goal.returns-clause-fit
returns-clause-fit c = λ table. set_is_table c.args.sessions.now.items c.args.place c.take.new.session (was_own c.args.sessions.now.items c.args.place c.args.conn c.requires.apart c.requires.place c.index_mut.result.now c.take.new.session c.index_mut.ensures.value (ap (λ (s : Session). s.conn) c.take.ensures.left)) table
