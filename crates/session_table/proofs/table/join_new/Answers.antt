use Rattle.std.proofs.Common.{◌<◌, ◌≤◌, List, length, true, sym, ap, subst, ◌∙◌, arith}
use Rattle.session_table.specs.declared.session.Session.{Session}
use Rattle.session_table.specs.Table.{table_of, pins_of, IsTable}
use Rattle.session_table.specs.Changing.{Joined}
use Rattle.session_table.proofs.Placing.{joins, full_stays, more_is_table, more_pins}
use Rattle.session_table.specs.Working.{works_of}
use Rattle.session_table.proofs.Works.{more_works}
use Rattle.session_table.proofs.table.join_new.Goals as goal

pub returns-then-len-ge-MAX_SESSIONS-clause-table : goal.returns-then-len-ge-MAX_SESSIONS-clause-table
returns-then-len-ge-MAX_SESSIONS-clause-table c = λ databases weight.
    let full : 64 ≤ length c.args.sessions.now.items = omega arith in
    full_stays databases c.args.sessions.now.items weight c.args.conn full

pub returns-clause-table : goal.returns-clause-table
returns-clause-table c = λ databases weight.
    let few : length c.args.sessions.now.items < 64 = omega arith in
    subst (λ (ss : List Session). Joined (table_of databases c.args.sessions.now.items weight) c.args.conn true (table_of databases ss weight)) (sym c.in_ok-push.ensures.items)
    (joins databases c.args.sessions.now.items weight c.args.conn c.fresh.result c.requires.absent few c.fresh.ensures)

pub returns-clause-pins : goal.returns-clause-pins
returns-clause-pins c = ap pins_of c.in_ok-push.ensures.items ∙ more_pins c.args.sessions.now.items c.fresh.result c.args.conn c.fresh.ensures

pub returns-clause-fit : goal.returns-clause-fit
returns-clause-fit c =
    let few : length c.args.sessions.now.items < 64 = omega arith in
    subst IsTable (sym c.in_ok-push.ensures.items) (more_is_table c.args.sessions.now.items c.fresh.result c.args.conn c.requires.absent c.fresh.ensures few c.requires.table)

pub returns-clause-works : goal.returns-clause-works
returns-clause-works c = ap works_of c.in_ok-push.ensures.items ∙ more_works c.args.sessions.now.items c.fresh.result c.args.conn c.fresh.ensures
