use Rattle.std.proofs.Common.{ℕ, List, sym, ap, ◌∙◌}
use Rattle.std.specs.Prelude.{is_some}
use Rattle.std.specs.Option.{option_map}
use Rattle.page_store.specs.Store.{newest}
use Rattle.database_state.specs.declared.database.Database.{Database}
use Rattle.database_state.specs.Databases.{named}
use Rattle.applied_state.proofs.EachName.{named_there}
use Rattle.applied_state.proofs.applied.has_name.Goals as goal

pub returns : goal.returns
returns c =
    c.is_some.ensures ∙ ap is_some (c.newest.ensures ∙ ap (λ (n : List ℕ). option_map (λ (d : Database). newest d.store) (named n c.args.machine.now)) c.as_str.ensures.value)
    ∙ sym (named_there (λ (d : Database). newest d.store) c.args.name.now c.args.machine.now)
