use Rattle.headline_safety.proofs.Refused.{no_other_files}
use Rattle.headline_safety.proofs.refusals.refuses_other_files.Goals as goal

pub returns : goal.returns
returns g c kind = no_other_files _ kind
