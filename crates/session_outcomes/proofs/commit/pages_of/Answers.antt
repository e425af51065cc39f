use Rattle.std.proofs.Common.{List, sym, subst}
use Rattle.std.proofs.lemmas.Result.{IfOk-weaker}
use Rattle.dq_base.specs.declared.pages.NumberedPage.{NumberedPage}
use Rattle.session_outcomes.specs.Earlier.{image_of}
use Rattle.session_outcomes.specs.Hindered.{LeadsTo}
use Rattle.session_outcomes.proofs.Leading.{change_leads}
use Rattle.session_outcomes.proofs.commit.pages_of.Goals as goal

pub returns-clause-leads : goal.returns-clause-leads
returns-clause-leads c =
    let x = c.args.transaction.now in
    IfOk-weaker c.change_between.result _ _
    (λ pages is. subst (λ (ps : List NumberedPage). LeadsTo ps x.working) (sym is) (change_leads (image_of c.pinned-earlier.result) x.working c.lengths_of.ensures.main_fits c.lengths_of.ensures.side_fits)) c.change_between.ensures
