use Rattle.script_falls.proofs.Falls.{unfallen_fair, unfallen_safe}
use Rattle.script_falls.proofs.unfallen_scripts_are_safe.Goals as goal

pub returns-clause-fair : goal.returns-clause-fair
returns-clause-fair c kind = unfallen_fair kind

pub returns-clause-safe : goal.returns-clause-safe
returns-clause-safe c kind = unfallen_safe kind (c.whole_scripts_are_safe.ensures.safe kind)
