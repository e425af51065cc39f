use Rattle.std.proofs.Common.{◌≡◌, map, Some, subst}
use Rattle.std.specs.List.{AllByRecursion}
use Rattle.dq_base.specs.declared.pages.PageSet.{PageSet}
use Rattle.log_commands.specs.Splitting.{split}
use Rattle.session_spec.specs.Entries.{Does, written}
use Rattle.session_spec.specs.Requests.{flying, with_flight}
use Rattle.session_spec.specs.Seen.{HasSpelling}
use Rattle.session_spec.specs.Sessions.{Committing}
use Rattle.session_outcomes.proofs.commit.proposed.Goals as goal

pub returns-clause-comes : goal.returns-clause-comes
returns-clause-comes c = λ m s.
    let v = c.args.view.now in
    let name = c.args.name.now in
    subst (λ (set : PageSet). (flying v s name (map Does (split name set)) c.args.count Committing ≡ with_flight s (Some c.in_ok-flight.flight)) × (c.in_ok-entries.entries ≡ written v.term (map Does (split name set))) × AllByRecursion HasSpelling (map Does (split name set))) c.set_of-set.ensures
    (c.in_ok-flight.ensures s _ c.in_ok-entries.ensures.entries, c.in_ok-entries.ensures.entries, c.in_ok-entries.ensures.spelled)
