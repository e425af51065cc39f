use Rattle.session_table.specs.Working.{work_with}
use Rattle.session_table.proofs.Works.{all_among}
use Rattle.session_outcomes.proofs.ends.worked.Goals as goal

pub returns-in-Ok-clause-works : goal.returns-in-Ok-clause-works
returns-in-Ok-clause-works c = λ tx. all_among (work_with c.args.set.pages c.args.number tx)
