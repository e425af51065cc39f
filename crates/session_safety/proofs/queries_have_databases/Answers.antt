use Rattle.session_safety.proofs.Opened.{queries_have_databases_hold}
use Rattle.session_safety.proofs.queries_have_databases.Goals as goal

pub returns : goal.returns
returns c = queries_have_databases_hold
