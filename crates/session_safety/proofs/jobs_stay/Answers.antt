use Rattle.session_safety.proofs.JobsKnown.{laters_stay_hold, jobs_are_known_hold}
use Rattle.session_safety.proofs.JobsStay.{jobs_stay_hold}
use Rattle.session_safety.proofs.jobs_stay.Goals as goal

pub returns-clause-stay : goal.returns-clause-stay
returns-clause-stay g c = λ kind. jobs_stay_hold (g.E.Engine.meaning kind) kind

pub returns-clause-known : goal.returns-clause-known
returns-clause-known g c = λ kind. jobs_are_known_hold (g.E.Engine.meaning kind) kind

pub returns-clause-later : goal.returns-clause-later
returns-clause-later g c = laters_stay_hold
