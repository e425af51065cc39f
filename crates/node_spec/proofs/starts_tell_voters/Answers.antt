use Rattle.node_spec.proofs.VoterTurns.{start_counts}
use Rattle.node_spec.proofs.starts_tell_voters.Goals as goal

pub returns : goal.returns
returns c = start_counts
