use Rattle.session_spec.proofs.Asked.{all_allowed}
use Rattle.session_spec.proofs.all_are_allowed.Goals as goal

pub returns : goal.returns
returns c = all_allowed
