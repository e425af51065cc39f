use Rattle.std.proofs.Common.{ℕ, sym, ◌∙◌}
use Rattle.session_spec.specs.Limits.{change_refusal}
use Rattle.session_spec.specs.Machine.{machine_of}
use Rattle.session_spec.specs.Requests.{flying, change_of}
use Rattle.session_spec.specs.Sessions.{Proposes, Committing, Nothing}
use Rattle.session_table.specs.Table.{table_of}
use Rattle.session_outcomes.proofs.Commits.{free_taken, stops, goes}
use Rattle.session_outcomes.proofs.commit.commit.Goals as goal

pub proposed-requires-clause-taken : goal.proposed-requires-clause-taken
proposed-requires-clause-taken c =
    let x = c.args.transaction.now in
    let machine = c.args.machine.now in
    free_taken c.args.pages.items c.in_ok-cause.field-0 c.in-Ok.count (λ to. change_refusal (machine_of machine) (table_of machine c.args.sessions.now 0) c.args.conn x.name x.mark c.args.pages.items to) c.in-Ok.is (λ to leads. c.in_ok-cause.ensures 0 to leads)

pub returns-in-Err-clause-comes : goal.returns-in-Err-clause-comes
returns-in-Err-clause-comes c = λ weight s to leads.
    stops c.args.view.now (machine_of c.args.machine.now) s _ c.args.pages.items to _ c.in_ok-cause.field-0 c.in-Err.cause _ (sym c.log_full.ensures ∙ c.if-log_full.false) c.in-Err.is (c.in_ok-cause.ensures weight to leads)

pub returns-in-Ok-clause-comes : goal.returns-in-Ok-clause-comes
returns-in-Ok-clause-comes c = λ weight s to leads.
    let v = c.args.view.now in
    let x = c.args.transaction.now in
    let contents = change_of v x.name c.args.pages.items in
    goes v (machine_of c.args.machine.now) s c.proposed.result _ c.args.pages.items to _ c.in_ok-cause.field-0 c.in-Ok.count (λ (n : ℕ). Proposes (flying v s x.name contents n Committing) contents Nothing) (sym c.log_full.ensures ∙ c.if-log_full.false) c.in-Ok.is (c.in_ok-cause.ensures weight to leads)
    (c.proposed.ensures.comes (machine_of c.args.machine.now) s)
