use Rattle.std.proofs.Common.{◌≡◌, ◌<◌, ◌≤◌, suc, sym, subst}
use Rattle.session_spec.specs.Entries.{tx_of}
use Rattle.session_spec.specs.Sessions.{View}
use Rattle.session_outcomes.proofs.Ground.{not_full}
use Rattle.session_outcomes.proofs.running.next_run.Goals as goal

pub returns : goal.returns
returns c = λ short room.
    subst (λ (v : View). c.transaction_number.result ≡ tx_of v.term (suc v.last)) c.view.view_is
    (c.transaction_number.ensures.number (subst (λ (v : View). v.term ≤ 4294967295) (sym c.view.view_is) short) (subst (λ (v : View). v.last < 4294967295) (sym c.view.view_is) (not_full c.args.view.now room)))
