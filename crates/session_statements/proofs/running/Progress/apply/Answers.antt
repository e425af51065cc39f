use Rattle.std.proofs.Common.{length, sym, ◌∙◌}
use Rattle.std.proofs.lemmas.Bool.{eqb-true}
use Rattle.session_statements.proofs.Changing.{applied_empty}
use Rattle.session_statements.proofs.Taking.{empty_taken, some_taken}
use Rattle.session_statements.proofs.running.Progress.apply.Goals as goal

pub returns-then-is_empty-clause-taken : goal.returns-then-is_empty-clause-taken
returns-then-is_empty-clause-taken c = empty_taken c.args.pages.now _ c.is_empty.ensures c.if-is_empty.true

pub returns-then-is_empty-clause-done : goal.returns-then-is_empty-clause-done
returns-then-is_empty-clause-done c = λ taken. applied_empty _ c.args.pages.now (eqb-true (length c.args.pages.now) 0 (sym c.is_empty.ensures ∙ c.if-is_empty.true))

pub returns-in-Err-clause-taken : goal.returns-in-Err-clause-taken
returns-in-Err-clause-taken c = some_taken c.args.pages.now _ _ c.is_empty.ensures c.if-is_empty.false c.in-Err.ensures

pub returns-in_ok-apply_noted-in-Ok-clause-taken : goal.returns-in_ok-apply_noted-in-Ok-clause-taken
returns-in_ok-apply_noted-in-Ok-clause-taken c = some_taken c.args.pages.now _ _ c.is_empty.ensures c.if-is_empty.false c.in-Ok.ensures.0
