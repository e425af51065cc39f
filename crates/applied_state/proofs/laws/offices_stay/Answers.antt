use Rattle.applied_state.proofs.Offices.{offices_stay_hold}
use Rattle.applied_state.proofs.laws.offices_stay.Goals as goal

pub returns : goal.returns
returns c = offices_stay_hold
