use Rattle.std.proofs.Common.{[], ◌∷◌, sym, ap, ◌∙◌}
use Rattle.session_spec.specs.Entries.{Configures, written_in}
use Rattle.session_spec.specs.Requests.{flying, does}
use Rattle.session_spec.specs.Sessions.{View, Configuring, Nothing, Proposes}
use Rattle.session_outcomes.proofs.Alone.{no_room, with_room}
use Rattle.session_outcomes.proofs.sole.changing.Goals as goal

pub returns-then-log_full-clause-comes : goal.returns-then-log_full-clause-comes
unfolding does
returns-then-log_full-clause-comes c = λ m g conn s answers.
    no_room c.args.view.now m s (Proposes (flying c.args.view.now s [] (Configures c.args.servers.now ∷ []) 0 (Configuring c.args.reply)) (Configures c.args.servers.now ∷ []) Nothing) _ (sym c.log_full.ensures ∙ c.if-log_full.true)

pub returns-clause-comes : goal.returns-clause-comes
unfolding does
returns-clause-comes c = λ m g conn s answers.
    with_room c.args.view.now m s (Proposes (flying c.args.view.now s [] (Configures c.args.servers.now ∷ []) 0 (Configuring c.args.reply)) (Configures c.args.servers.now ∷ []) Nothing) _ c.proposed_alone.result (sym c.log_full.ensures ∙ c.if-log_full.false)
    (c.proposed_alone.ensures.comes m s (Configures c.args.servers.now) (c.in_ok-entry.ensures.entry ∙ ap (λ (v : View). written_in v.term (Configures c.args.servers.now)) c.view.view_is) c.in_ok-entry.ensures.spelled)
