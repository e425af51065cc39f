use Rattle.session_spec.proofs.Reported.{losses_marked, losses_reported}
use Rattle.session_spec.proofs.losses_are_reported.Goals as goal

pub returns-clause-marked : goal.returns-clause-marked
returns-clause-marked c = losses_marked

pub returns-clause-reported : goal.returns-clause-reported
returns-clause-reported c = losses_reported
