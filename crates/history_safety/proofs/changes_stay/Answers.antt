use Rattle.history_safety.proofs.Staying.{changes_stay_hold, answers_are_shown_hold}
use Rattle.history_safety.proofs.changes_stay.Goals as goal

pub returns-clause-images : goal.returns-clause-images
returns-clause-images g c kind = changes_stay_hold _

pub returns-clause-shown : goal.returns-clause-shown
returns-clause-shown g c kind = answers_are_shown_hold _
