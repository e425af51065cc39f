use Rattle.applied_state.proofs.Following.{lives_are_shown_hold}
use Rattle.applied_state.proofs.laws.lives_are_shown.Goals as goal

pub returns : goal.returns
returns c = lives_are_shown_hold
