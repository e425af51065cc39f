use Rattle.std.proofs.Common.{[], ◌∷◌, sym, ap, ◌∙◌}
use Rattle.session_spec.specs.Entries.{Other, written_in}
use Rattle.session_spec.specs.Requests.{flying}
use Rattle.session_spec.specs.Sessions.{View, Querying, Nothing, Proposes}
use Rattle.session_outcomes.proofs.Alone.{no_room, with_room}
use Rattle.session_outcomes.proofs.sole.waiting.Goals as goal

pub returns-then-log_full-clause-comes : goal.returns-then-log_full-clause-comes
returns-then-log_full-clause-comes c = λ m s.
    no_room c.args.view.now m s (Proposes (flying c.args.view.now s [] (Other ∷ []) 0 (Querying c.args.query)) (Other ∷ []) Nothing) _ (sym c.log_full.ensures ∙ c.if-log_full.true)

pub returns-clause-comes : goal.returns-clause-comes
returns-clause-comes c = λ m s.
    with_room c.args.view.now m s (Proposes (flying c.args.view.now s [] (Other ∷ []) 0 (Querying c.args.query)) (Other ∷ []) Nothing) _ c.proposed_alone.result (sym c.log_full.ensures ∙ c.if-log_full.false)
    (c.proposed_alone.ensures.comes m s Other (c.in_ok-entry.ensures ∙ ap (λ (v : View). written_in v.term Other) c.view.view_is) tt)
