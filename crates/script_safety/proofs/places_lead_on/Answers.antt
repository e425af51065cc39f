use Rattle.script_safety.proofs.Placing.{finds_on_hold, places_begin_hold, steps_on_hold, falls_on_hold, crashes_on_hold, disks_crash_on_hold, starts_on_hold, starts_fail_hold}
use Rattle.script_safety.proofs.places_lead_on.Goals as goal

pub returns-clause-steps : goal.returns-clause-steps
returns-clause-steps g c = λ kind. steps_on_hold (g.E.Engine.meaning kind) kind

pub returns-clause-falls : goal.returns-clause-falls
returns-clause-falls g c = λ kind. falls_on_hold (g.E.Engine.meaning kind) kind

pub returns-clause-crashes : goal.returns-clause-crashes
returns-clause-crashes g c = λ kind. crashes_on_hold (g.E.Engine.meaning kind) kind

pub returns-clause-disks : goal.returns-clause-disks
returns-clause-disks g c = λ kind. disks_crash_on_hold (g.E.Engine.meaning kind) kind

pub returns-clause-starts : goal.returns-clause-starts
returns-clause-starts g c = λ kind. starts_on_hold (g.E.Engine.meaning kind) kind

pub returns-clause-fails : goal.returns-clause-fails
returns-clause-fails g c = λ kind. starts_fail_hold (g.E.Engine.meaning kind) kind

pub returns-clause-begins : goal.returns-clause-begins
returns-clause-begins g c = λ kind. places_begin_hold (g.E.Engine.meaning kind) kind

pub returns-clause-finds : goal.returns-clause-finds
returns-clause-finds g c = λ kind. finds_on_hold (g.E.Engine.meaning kind) kind
