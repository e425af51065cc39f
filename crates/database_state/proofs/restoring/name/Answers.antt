use Rattle.std.proofs.Common.{ap, sym, ◌∙◌}
use Rattle.std.specs.Prelude.{Err}
use Rattle.database_state.specs.declared.fault.SnapFault.TheVariants.{Order}
use Rattle.database_state.specs.Restoring.{last_name}
use Rattle.database_state.proofs.RestoringSteps.{name_refused}
use Rattle.database_state.proofs.restoring.name.Goals as goal

pub returns-in_default : goal.returns-in_default
returns-in_default c =
    name_refused (last_name c.args.databases.now) c.args.words.now c.text.new.self c.in_ok-text.text c.in_ok-text.ensures.exact (rw c.into_string.ensures at c.in_default.ensures) ∙ ap (λ at. Err (Order at)) (sym c.place-at.ensures)
