use Rattle.std.proofs.Common.{Option, ap, sym, ◌∙◌}
use Rattle.std.specs.Option.{option_map}
use Rattle.session_spec.specs.Machine.{machine_of}
use Rattle.session_table.specs.declared.session.Transaction.{Transaction}
use Rattle.session_table.specs.Table.{transaction_of, session_of, table_of}
use Rattle.session_outcomes.proofs.Commits.{commits}
use Rattle.session_outcomes.proofs.commit.committing.Goals as goal

pub returns-clause-comes : goal.returns-clause-comes
returns-clause-comes c = λ weight answers.
    let machine = c.args.machine.now in
    let x = transaction_of machine c.in-Some.transaction in
    let s = session_of machine c.args.session.now in
    commits c.args.view.now (machine_of machine) (table_of machine c.args.sessions.now weight) c.args.session.now.conn s x c.in_ok-pages.pages.items c.commit.result answers
    (ap (λ (t : Option Transaction). option_map (transaction_of machine) t) c.in-Some.is) c.if-not-transaction.false c.in_ok-pages.ensures.change (sym c.are_none.ensures ∙ c.if-are_none.false)
    (c.commit.ensures.comes weight s x.working c.in_ok-pages.ensures.leads)
