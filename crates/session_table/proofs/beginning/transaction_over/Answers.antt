use Rattle.std.proofs.Common.{ℕ, List, option_map, ap, ◌∙◌}
use Rattle.database_state.specs.Databases.{named}
use Rattle.database_state.specs.ImageNumbers.{number_of}
use Rattle.session_table.proofs.Works.{newest_work}
use Rattle.session_table.proofs.beginning.transaction_over.Goals as goal

pub returns-clause-work : goal.returns-clause-work
returns-clause-work c = newest_work c.args.name.now c.args.machine.now c.number-number.result c.in_ok-working.working
    (c.number-number.ensures ∙ ap (λ (name : List ℕ). option_map number_of (named name c.args.machine.now)) c.as_str.ensures.value) c.in_ok-working.ensures
