use Rattle.std.proofs.Common.{sym, ap, ◌∙◌}
use Rattle.std.proofs.lemmas.Bool.{cond-true}
use Rattle.session_spec.specs.Causes.{NotLeader}
use Rattle.session_spec.specs.Sessions.{View}
use Rattle.session_spec.specs.Asking.{Never, in_database}
use Rattle.session_table.specs.Table.{session_of}
use Rattle.session_requests.proofs.statement_requests.hindrance_at_leader.Goals as goal

pub returns-then-view : goal.returns-then-view
returns-then-view c = λ databases asked.
    cond-true c.args.view.now.serving (in_database (session_of databases c.args.session.now) c.args.db asked) (Never NotLeader) (sym (ap (λ (v : View). v.serving) c.view.view_is) ∙ c.if-view.true)
    ∙ c.refusal.ensures databases asked
