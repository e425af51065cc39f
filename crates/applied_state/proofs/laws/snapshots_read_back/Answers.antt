use Rattle.applied_state.proofs.Snapshots.{snapshots_read_hold, snapshots_spelled_hold, both_forms_hold}
use Rattle.applied_state.proofs.laws.snapshots_read_back.Goals as goal

pub returns-clause-read : goal.returns-clause-read
returns-clause-read c = snapshots_read_hold

pub returns-clause-spelled : goal.returns-clause-spelled
returns-clause-spelled c = snapshots_spelled_hold

pub returns-clause-forms : goal.returns-clause-forms
returns-clause-forms c = both_forms_hold
