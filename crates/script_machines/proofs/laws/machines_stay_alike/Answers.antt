use Rattle.script_machines.proofs.Agreement.{events_keep_alike, machines_stand_alike}
use Rattle.script_machines.proofs.Bounded.{lists_stay_sound, files_are_bounded}
use Rattle.script_machines.proofs.laws.machines_stay_alike.Goals as goal

pub returns-clause-events : goal.returns-clause-events
returns-clause-events c = events_keep_alike

pub returns-clause-shown : goal.returns-clause-shown
returns-clause-shown c = machines_stand_alike

pub returns-clause-sound : goal.returns-clause-sound
returns-clause-sound c = lists_stay_sound

pub returns-clause-bounded : goal.returns-clause-bounded
returns-clause-bounded c = files_are_bounded
