use Rattle.script_falls.proofs.Refused.{no_other_images}
use Rattle.script_falls.proofs.refusals.refuses_other_images.Goals as goal

pub returns : goal.returns
returns c kind = no_other_images kind (c.unfallen_scripts_are_safe.ensures.safe kind)
