use Rattle.headline_safety.proofs.Shown.{files_are_shown_hold}
use Rattle.headline_safety.proofs.files_are_shown.Goals as goal

pub returns : goal.returns
returns g c = λ kind. files_are_shown_hold _ kind
