use Rattle.session_spec.proofs.Keeping.{proposes_pages_holds}
use Rattle.session_spec.proofs.proposes_pages.Goals as goal

pub returns : goal.returns
returns c = proposes_pages_holds
