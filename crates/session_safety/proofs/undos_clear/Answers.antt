use Rattle.session_safety.proofs.Undos.{undos_clear_hold}
use Rattle.session_safety.proofs.undos_clear.Goals as goal

pub returns : goal.returns
returns c = undos_clear_hold
