use Rattle.std.proofs.Common.{sym, subst}
use Rattle.session_table.specs.declared.session.Session.{Session}
use Rattle.session_table.specs.Changing.{CanChange}
use Rattle.session_table.proofs.Placing.{change_table, keep_table, keep_pins, was_own, set_is_table, ok_also, err_also}
use Rattle.session_table.proofs.Works.{changed_works}
use Rattle.session_table.proofs.change.make_change.Goals as goal

pub change-requires : goal.change-requires
change-requires c = subst (λ (s : Session). CanChange s.statements.items c.args.change) (sym c.index_mut.ensures.value) (c.requires.can c.index_mut.result.now)

pub returns-clause-ok : goal.returns-clause-ok
returns-clause-ok c = ok_also c.change.result _ _ (λ so. λ databases weight.
    change_table c.args.sessions.now.items c.args.place c.args.conn c.requires.apart c.requires.place c.index_mut.result.now c.change.new.self c.index_mut.ensures.value c.change.ensures.conn databases weight c.args.change (so databases)) c.change.ensures.ok

pub returns-clause-kept : goal.returns-clause-kept
returns-clause-kept c = err_also c.change.result _ _ (λ so. λ databases weight.
    keep_table c.args.sessions.now.items c.args.place c.args.conn c.requires.apart c.requires.place c.index_mut.result.now c.change.new.self c.index_mut.ensures.value c.change.ensures.conn databases weight (so databases)) c.change.ensures.kept

pub returns-clause-pins : goal.returns-clause-pins
returns-clause-pins c = keep_pins c.args.sessions.now.items c.args.place c.args.conn c.requires.apart c.requires.place c.index_mut.result.now c.change.new.self c.index_mut.ensures.value c.change.ensures.conn c.change.ensures.pin

pub returns-clause-fit : goal.returns-clause-fit
returns-clause-fit c = λ table. set_is_table c.args.sessions.now.items c.args.place c.change.new.self (was_own c.args.sessions.now.items c.args.place c.args.conn c.requires.apart c.requires.place c.index_mut.result.now c.change.new.self c.index_mut.ensures.value c.change.ensures.conn) table

pub returns-clause-works : goal.returns-clause-works
returns-clause-works c = λ own. changed_works c.args.sessions.now.items c.args.place c.args.change c.index_mut.result.now c.change.new.self own c.requires.place.within c.index_mut.ensures.value c.change.ensures.works
