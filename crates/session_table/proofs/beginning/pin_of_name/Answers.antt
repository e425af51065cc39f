use Rattle.std.proofs.Common.{ℕ, List, subst}
use Rattle.database_state.specs.Databases.{named}
use Rattle.database_state.specs.Pins.{IsRefused}
use Rattle.session_table.proofs.Roomy.{refused_blank}
use Rattle.session_table.proofs.Gaining.{gained_one}
use Rattle.session_table.proofs.beginning.pin_of_name.Goals as goal

pub returns-in-Ok-clause-gained : goal.returns-in-Ok-clause-gained
returns-in-Ok-clause-gained c = gained_one _ c.args.machine.now c.pin.new.self c.in-Ok.pin c.in-Ok.ensures.done c.databases.ensures.stand c.in-Ok.ensures.shows c.pin.ensures.shown

pub returns-in-Err-clause-shows : goal.returns-in-Err-clause-shows
returns-in-Err-clause-shows c =
    refused_blank c.args.name.now c.args.machine.now c.in-Err.field-0 c.databases.ensures.stand c.requires
    (subst (λ (name : List ℕ). IsRefused (named name c.args.machine.now) c.in-Err.field-0) c.as_str.ensures.value c.in-Err.ensures.refused)
