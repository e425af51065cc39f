-- Statements that ran in a transaction, by how they ended.
use Rattle.std.proofs.Common.{◌≡◌, ℕ, Bool, true, false, cond, List, [], ◌∷◌, ◌++◌, append-nil, Option, Some, None, Result, IfOk, refl, sym, ap, subst, ◌∙◌}
use Rattle.std.specs.declared.alloc.AllocError.{AllocError}
use Rattle.dq_base.specs.declared.images.Image.{Image}
use Rattle.dq_base.specs.declared.pages.NumberedPage.{NumberedPage}
use Rattle.dq_base.specs.declared.pages.PageSet.{PageSet}
use Rattle.dq_base.specs.Changes.{changed}
use Rattle.dq_base.specs.Applying.{applied}
use Rattle.sql_engine.specs.declared.answer.StatementResult.{StatementResult}
use Rattle.sql_engine.specs.declared.fault.EngineFault.{EngineFault}
use Rattle.sql_engine.specs.Replies.{Statement}
use Rattle.session_spec.specs.Causes.{DatabaseFull, engine_cause}
use Rattle.session_spec.specs.Engines.{no_pages, Ending, TooLarge, Stopped, Ended}
use Rattle.session_spec.specs.Machine.{Machine}
use Rattle.session_spec.specs.Sessions.{Session, Gateway, View, Transaction, Inside, Turned, Refused, Answers}
use Rattle.session_spec.specs.Limits.{change_refusal}
use Rattle.session_spec.specs.Requests.{unless, row_cause, reply_of, with_tx, worked, inside}
use Rattle.session_spec.specs.Touched.{numbers_of}
use Rattle.session_spec.proofs.Images.{unchanged, changed_same}
use Rattle.session_table.specs.declared.cause.Cause.{Cause}
use Rattle.session_table.specs.Named.{cause_named}
use Rattle.session_table.specs.Changing.{worked_on}
use Rattle.session_outcomes.specs.declared.decision.Decision.{Decision}
use Rattle.session_outcomes.specs.declared.decision.Decision.TheVariants as decisions
use Rattle.session_outcomes.specs.Turning.{MatchesOutcome}
use Rattle.session_statements.specs.declared.ending.AllRan.{AllRan}
use Rattle.session_statements.specs.Running.{change_in}
use Rattle.session_outcomes.proofs.Shown.{AllShown, change_leads}
use Rattle.session_outcomes.specs.Hindered.{LeadsTo}

no_page : (pages : List NumberedPage) → no_pages pages ≡ true → pages ≡ []
no_page [] e = refl
no_page (p ∷ ps) e = absurd cc

-- an image that stays lists no page
nothing_more : (ns : List ℕ) (a : Image) → ns ++ numbers_of (changed a a) ≡ ns
nothing_more ns a = ap (λ (pages : List NumberedPage). ns ++ numbers_of pages) (no_page (changed a a) (changed_same a)) ∙ append-nil ns

-- the transaction with the image and the turn that it has
same_worked : (s : Session) (x : Transaction) (to : Image) → s.tx ≡ Some x → x.working ≡ to → worked s x to x.turn ≡ s
same_worked s x to begun is =
    ap (λ (image : Image). worked s x image x.turn) (sym is)
    ∙ ap (λ (ns : List ℕ). with_tx s (Some (record { name = x.name; mark = x.mark; pinned = x.pinned; working = x.working; turn = x.turn; touched = ns }))) (nothing_more x.touched x.working)
    ∙ ap (with_tx s) (sym begun)

-- the transaction with the pages that lead to another image
pub works_on : (s : Session) (x : Transaction) (set : PageSet) (to : Image) → s.tx ≡ Some x → applied x.working set.pages ≡ to → set.pages ≡ changed x.working to → worked s x to true ≡ with_tx s (worked_on set.pages s.tx)
works_on s x set to begun reaches lists =
    (λ i. with_tx s (Some (record { name = x.name; mark = x.mark; pinned = x.pinned; working = sym reaches i; turn = true; touched = x.touched ++ numbers_of (sym lists i) })))
    ∙ ap (λ (tx : Option Transaction). with_tx s (worked_on set.pages tx)) (sym begun)

module _ (v : View) (m : Machine) (g : Gateway) (conn : ℕ) (s : Session) (x : Transaction) (ss : List Statement) (rows : Bool) (e : Ending) where
  pub stopped_inside : (fault : EngineFault) (cause : Cause) → e ≡ Stopped fault → cause_named cause ≡ engine_cause fault → MatchesOutcome v m s (inside m g conn s x ss rows e) (decisions.Refused cause)
  unfolding inside
  stopped_inside fault cause is named = subst (λ (y : Ending). MatchesOutcome v m s (inside m g conn s x ss rows y) (decisions.Refused cause)) (sym is) (sym named)

  pub large_inside : (r : Result Decision AllocError) (answer : StatementResult) → e ≡ TooLarge answer
      → IfOk r (MatchesOutcome v m s (unless (row_cause rows answer (change_refusal m g conn x.name x.mark answer.after.pages x.working)) (Refused DatabaseFull)))
      → IfOk r (MatchesOutcome v m s (inside m g conn s x ss rows e))
  unfolding inside
  large_inside r answer is comes = subst (λ (y : Ending). IfOk r (MatchesOutcome v m s (inside m g conn s x ss rows y))) (sym is) comes

  module _ (r : Result Decision AllocError) (tx : ℕ) (ran : AllRan) (all : AllShown tx x.working e ran) where
    pub pages_inside : (change_in ran).pages ≡ changed x.working all.to
    pages_inside = ap (λ (set : PageSet). set.pages) all.change

    ended_inside : (turned : Turned) → inside m g conn s x ss rows (Ended all.to ran.answer) ≡ turned → IfOk r (MatchesOutcome v m s turned) → IfOk r (MatchesOutcome v m s (inside m g conn s x ss rows e))
    ended_inside turned is comes =
        subst (λ (y : Ending). IfOk r (MatchesOutcome v m s (inside m g conn s x ss rows y))) (sym all.is)
        (subst (λ (t : Turned). IfOk r (MatchesOutcome v m s t)) (sym is) comes)

    abbrev works : List NumberedPage → Turned
    works pages = unless (row_cause rows ran.answer (change_refusal m g conn x.name x.mark pages all.to)) (Answers (worked s x all.to true) (reply_of rows ran.answer) (Inside x.name ss))

    abbrev idles : Session → Turned
    idles to = unless (row_cause rows ran.answer None) (Answers to (reply_of rows ran.answer) (Inside x.name ss))

    is_idle_inside : s.tx ≡ Some x → no_pages (change_in ran).pages ≡ true → inside m g conn s x ss rows (Ended all.to ran.answer) ≡ idles s
    unfolding inside
    is_idle_inside begun none =
        ap (λ (b : Bool). cond b (idles (worked s x all.to x.turn)) (works (changed x.working all.to))) (ap no_pages (sym pages_inside) ∙ none)
        ∙ ap idles (same_worked s x all.to begun (unchanged x.working all.to (ap no_pages (sym pages_inside) ∙ none)))

    is_work : no_pages (change_in ran).pages ≡ false → inside m g conn s x ss rows (Ended all.to ran.answer) ≡ works (change_in ran).pages
    unfolding inside
    is_work some =
        ap (λ (b : Bool). cond b (idles (worked s x all.to x.turn)) (works (changed x.working all.to))) (ap no_pages (sym pages_inside) ∙ some)
        ∙ ap works (sym pages_inside)

    pub idle_inside : s.tx ≡ Some x → no_pages (change_in ran).pages ≡ true → IfOk r (MatchesOutcome v m s (unless (row_cause rows ran.answer None) (Answers s (reply_of rows ran.answer) (Inside x.name ss)))) → IfOk r (MatchesOutcome v m s (inside m g conn s x ss rows e))
    idle_inside begun none comes = ended_inside (idles s) (is_idle_inside begun none) comes

    pub work_inside : no_pages (change_in ran).pages ≡ false
        → IfOk r (MatchesOutcome v m s (unless (row_cause rows ran.answer (change_refusal m g conn x.name x.mark (change_in ran).pages all.to)) (Answers (worked s x all.to true) (reply_of rows ran.answer) (Inside x.name ss)))) → IfOk r (MatchesOutcome v m s (inside m g conn s x ss rows e))
    work_inside some comes = ended_inside (works (change_in ran).pages) (is_work some) comes

    pub leads_inside : LeadsTo (change_in ran).pages all.to
    leads_inside = subst (λ (pages : List NumberedPage). LeadsTo pages all.to) (sym pages_inside) (change_leads x.working all.to all.leads)

    pub applied_inside : applied x.working (change_in ran).pages ≡ all.to
    applied_inside = ap (applied x.working) pages_inside ∙ all.leads
