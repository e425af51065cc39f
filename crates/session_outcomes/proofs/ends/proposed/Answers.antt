use Rattle.std.proofs.Common.{ℕ, List, None, sym, ap, subst, ◌∙◌}
use Rattle.session_spec.specs.Sessions.{Reply, Writing, Proposes}
use Rattle.session_spec.specs.Requests.{row_cause, reply_of, flying}
use Rattle.session_table.specs.Named.{reply_named}
use Rattle.session_outcomes.specs.declared.decision.Decision.TheVariants as decisions
use Rattle.session_outcomes.specs.Told.{TellsReply}
use Rattle.session_outcomes.proofs.Turned.{goes}
use Rattle.session_outcomes.proofs.ends.proposed.Goals as goal

pub returns-in_ok-name-in-Ok : goal.returns-in_ok-name-in-Ok
returns-in_ok-name-in-Ok c = λ m s note contents is spelled.
    let tells = subst (TellsReply c.args.rows c.args.answer) c.in-Ok.is c.in_ok-reply.ensures in
    goes c.args.view.now m s (row_cause c.args.rows c.args.answer None) (Proposes (flying c.args.view.now s c.args.name.now contents c.args.pages (Writing (reply_of c.args.rows c.args.answer))) contents note) (decisions.Proposes c.flight-flight.result c.args.entries) (tells.1 None) (
      ap (λ (reply : Reply). flying c.args.view.now s c.args.name.now contents c.args.pages (Writing reply)) (sym tells.0)
          ∙ ap (λ (name : List ℕ). flying c.args.view.now s name contents c.args.pages (Writing (reply_named c.in-Ok.reply))) (sym c.in_ok-name-in-Ok.ensures)
          ∙ c.flight-flight.ensures s contents is,
      is,
      spelled,
    )
