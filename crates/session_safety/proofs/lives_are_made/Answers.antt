use Rattle.session_safety.proofs.Examples.{write_waits_holds, old_images_hold, turn_ends_holds, proposal_stays_holds, leadership_goes_holds, barrier_waits_holds, readers_tell_holds, transaction_fits}
use Rattle.session_safety.proofs.lives_are_made.Goals as goal

pub returns-clause-write : goal.returns-clause-write
returns-clause-write c = write_waits_holds

pub returns-clause-old_images : goal.returns-clause-old_images
returns-clause-old_images c = old_images_hold

pub returns-clause-turn : goal.returns-clause-turn
returns-clause-turn c = turn_ends_holds

pub returns-clause-proposal : goal.returns-clause-proposal
returns-clause-proposal c = proposal_stays_holds

pub returns-clause-lost : goal.returns-clause-lost
returns-clause-lost c = leadership_goes_holds

pub returns-clause-fits : goal.returns-clause-fits
returns-clause-fits c = transaction_fits

pub returns-clause-barrier : goal.returns-clause-barrier
returns-clause-barrier c = barrier_waits_holds

pub returns-clause-readers : goal.returns-clause-readers
returns-clause-readers c = readers_tell_holds
