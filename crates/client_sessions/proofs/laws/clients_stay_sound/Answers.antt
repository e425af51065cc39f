use Rattle.client_sessions.proofs.Soundness.{none_sound, joined_sound, without_sound, applied_sound, lost_sound}
use Rattle.client_sessions.proofs.laws.clients_stay_sound.Goals as goal

pub returns : goal.returns
returns c = record { started = none_sound; joined = joined_sound; left = without_sound; applied = applied_sound; lost = lost_sound }
