use Rattle.script_determinism.proofs.SameRuns.{steps_decided, starts_decided, kept_of_core}
use Rattle.script_determinism.proofs.cores.cores_are_decided.Goals as goal

pub returns : goal.returns
returns c = record { steps = steps_decided; starts = starts_decided; kept = kept_of_core }
