use Rattle.std.proofs.Common.{◌≡◌, ◌<◌, ◌≤◌, Some, option_map, length, sym, ap, subst, ◌∙◌, arith}
use Rattle.std.proofs.lemmas.List.{take_all}
use Rattle.std.specs.List.{AllByRecursion}
use Rattle.session_spec.specs.Sessions.{is_due}
use Rattle.session_table.specs.declared.session.Session.{Session}
use Rattle.session_table.specs.Named.{later_named}
use Rattle.session_table.specs.Table.{table_of}
use Rattle.session_gateway.specs.Later.{first_due}
use Rattle.session_gateway.proofs.Laters.{IsNotDue, due_first, none_due}
use Rattle.session_gateway.proofs.later.next_due.Goals as goal

pub returns-then-is_next : goal.returns-then-is_next
returns-then-is_next c = λ databases weight.
    let at : c.loop-session.session-index < length c.args.sessions.now = omega arith in
    subst (λ (s : Session). first_due (table_of databases c.args.sessions.now weight) ≡ Some s.conn) (sym c.session-item.is)
    (due_first databases c.args.sessions.now weight c.loop-session.session-index c.session-item.result c.requires c.loop-session.invariant at (ap (λ (s : Session). is_due (option_map later_named s.later)) (sym c.session-item.is) ∙ sym c.is_next.ensures ∙ c.if-is_next.true))

pub returns : goal.returns
returns c = λ databases weight conn.
    let past : length c.args.sessions.now ≤ c.loop-session.session-index = omega arith in
    none_due databases c.args.sessions.now weight conn (subst (AllByRecursion IsNotDue) (take_all c.loop-session.session-index c.args.sessions.now past) c.loop-session.invariant)
