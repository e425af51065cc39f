use Rattle.std.proofs.Common.{ap, sym, ◌∙◌}
use Rattle.wire_words.specs.declared.fault.WordFault.TheVariants.{Short}
use Rattle.std.specs.Prelude.{Err}
use Rattle.log_commands.proofs.ItemFacts.{name_refused}
use Rattle.log_commands.proofs.items.name.Goals as goal

pub returns-in_default : goal.returns-in_default
returns-in_default c =
    name_refused c.args.words.now c.text.new.self c.in_ok-text.text c.in_ok-text.ensures.exact (rw c.into_string.ensures at c.in_default.ensures) ∙ ap (λ at. Err (Short at)) (sym c.place-at.ensures)
