use Rattle.node_spec.proofs.VoterTurns.{rest_tells, follow_tells, change_tells, install_tells, compact_tells}
use Rattle.node_spec.proofs.turns_tell_voters.Goals as goal

pub returns-clause-rest : goal.returns-clause-rest
returns-clause-rest c = rest_tells

pub returns-clause-follow : goal.returns-clause-follow
returns-clause-follow c = follow_tells

pub returns-clause-change : goal.returns-clause-change
returns-clause-change c = change_tells

pub returns-clause-install : goal.returns-clause-install
returns-clause-install c = install_tells

pub returns-clause-compact : goal.returns-clause-compact
returns-clause-compact c = compact_tells
