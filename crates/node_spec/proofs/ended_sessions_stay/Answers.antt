use Rattle.node_spec.proofs.EndedSessions.{ends_on_holds}
use Rattle.node_spec.proofs.ended_sessions_stay.Goals as goal

pub returns : goal.returns
returns c = ends_on_holds
