use Rattle.headline_script_safety.proofs.Showing.{scripts_show_changes_hold}
use Rattle.headline_script_safety.proofs.scripts_show_changes.Goals as goal

pub returns : goal.returns
returns g c = λ kind. scripts_show_changes_hold _ kind
