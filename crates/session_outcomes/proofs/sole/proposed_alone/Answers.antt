use Rattle.std.proofs.Common.{[], ◌∷◌, ◌∙◌}
use Rattle.session_outcomes.proofs.Alone.{one_entry}
use Rattle.session_outcomes.proofs.sole.proposed_alone.Goals as goal

pub returns-clause-comes : goal.returns-clause-comes
returns-clause-comes c = λ m s content is spelled.
    let written = c.new-entries.ensures ∙ c.in_ok-vec.ensures.items ∙ one_entry _ _ is in
    (c.flight-flight.ensures s (content ∷ []) written, written, (spelled, tt))
