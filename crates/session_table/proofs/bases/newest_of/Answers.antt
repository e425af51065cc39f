use Rattle.std.proofs.Common.{ℕ, List, ap, ◌∙◌}
use Rattle.session_spec.specs.Machine.{machine_of}
use Rattle.session_table.proofs.bases.newest_of.Goals as goal

pub returns : goal.returns
returns c = c.newest.ensures ∙ ap (λ (name : List ℕ). ((machine_of c.args.machine.now).base name).newest) c.as_str.ensures.value
