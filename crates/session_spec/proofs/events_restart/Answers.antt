use Rattle.session_spec.proofs.RestartedEvents.{events_shift_hold, commands_restart_hold}
use Rattle.session_spec.proofs.events_restart.Goals as goal

pub returns-clause-events : goal.returns-clause-events
returns-clause-events c = events_shift_hold

pub returns-clause-commands : goal.returns-clause-commands
returns-clause-commands c = commands_restart_hold
