use Rattle.session_table.specs.Working.{works_of}
use Rattle.session_table.proofs.Works.{all_among}
use Rattle.session_table.proofs.sweep.lost.Goals as goal

pub returns-in_err-told-clause-works : goal.returns-in_err-told-clause-works
returns-in_err-told-clause-works c = all_among (works_of c.args.sessions.now.items)
