use Rattle.headline.proofs.Refused.{no_other_files}
use Rattle.headline.proofs.no_other_files.Goals as goal

pub returns : goal.returns
returns g c kind = no_other_files _
