use Rattle.change_safety.proofs.Refused.{no_other_image}
use Rattle.change_safety.proofs.refusals.refuses_another_image.Goals as goal

pub returns : goal.returns
returns c = no_other_image
