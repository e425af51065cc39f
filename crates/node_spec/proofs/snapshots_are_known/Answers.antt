use Rattle.node_spec.proofs.SnapshotSteps.{snapshots_stay, snapshots_come, snapshots_taken}
use Rattle.node_spec.proofs.snapshots_are_known.Goals as goal

pub returns-clause-stay : goal.returns-clause-stay
returns-clause-stay c = snapshots_stay

pub returns-clause-come : goal.returns-clause-come
returns-clause-come c = snapshots_come

pub returns-clause-taken : goal.returns-clause-taken
returns-clause-taken c = snapshots_taken
