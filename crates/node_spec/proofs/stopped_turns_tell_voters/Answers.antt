use Rattle.node_spec.proofs.VoterTurns.{plain_stops, change_stops}
use Rattle.node_spec.proofs.stopped_turns_tell_voters.Goals as goal

pub returns-clause-plain : goal.returns-clause-plain
returns-clause-plain c = plain_stops

pub returns-clause-change : goal.returns-clause-change
returns-clause-change c = change_stops
