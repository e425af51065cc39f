use Rattle.applied_state.proofs.Offices.{offices_go_on_hold}
use Rattle.applied_state.proofs.laws.offices_go_on.Goals as goal

pub returns : goal.returns
returns g c = λ kind. offices_go_on_hold _ kind
