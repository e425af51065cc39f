-- Statements that ran outside a transaction, by how they ended.
use Rattle.std.proofs.Common.{◌≡◌, ℕ, Bool, true, false, cond, List, None, Result, IfOk, sym, ap, subst, ◌∙◌}
use Rattle.std.specs.declared.alloc.AllocError.{AllocError}
use Rattle.dq_base.specs.declared.images.Image.{Image}
use Rattle.dq_base.specs.declared.pages.NumberedPage.{NumberedPage}
use Rattle.dq_base.specs.declared.pages.PageSet.{PageSet}
use Rattle.dq_base.specs.Changes.{changed}
use Rattle.sql_engine.specs.declared.answer.StatementResult.{StatementResult}
use Rattle.sql_engine.specs.declared.fault.EngineFault.{EngineFault}
use Rattle.sql_engine.specs.Replies.{Statement}
use Rattle.session_spec.specs.Causes.{LogFull, DatabaseFull, engine_cause}
use Rattle.session_spec.specs.Engines.{no_pages, Ending, TooLarge, Stopped, Ended}
use Rattle.session_spec.specs.Machine.{Machine}
use Rattle.session_spec.specs.Sessions.{Session, Gateway, View, Outside, Turned, Refused, Answers}
use Rattle.session_spec.specs.Limits.{log_full, first_cause, change_refusal}
use Rattle.session_spec.specs.Requests.{unless, row_cause, reply_of, outside, outside_write}
use Rattle.session_table.specs.declared.cause.Cause.{Cause}
use Rattle.session_table.specs.Named.{cause_named}
use Rattle.session_outcomes.specs.declared.decision.Decision.{Decision}
use Rattle.session_outcomes.specs.declared.decision.Decision.TheVariants as decisions
use Rattle.session_outcomes.specs.Turning.{MatchesOutcome}
use Rattle.session_statements.specs.declared.ending.AllRan.{AllRan}
use Rattle.session_statements.specs.Running.{change_in}
use Rattle.session_outcomes.specs.Runs.{write_of}
use Rattle.session_outcomes.proofs.Shown.{AllShown, change_leads}
use Rattle.session_outcomes.specs.Hindered.{LeadsTo}

module _ (v : View) (m : Machine) (g : Gateway) (conn : ℕ) (s : Session) (ss : List Statement) (rows : Bool) (name : List ℕ) (own : s.database ≡ name) (e : Ending) where
  -- the image of a session's database
  abbrev base : Image
  base = (m.base name).image

  pub stopped_comes : (fault : EngineFault) (cause : Cause) → e ≡ Stopped fault → cause_named cause ≡ engine_cause fault → MatchesOutcome v m s (outside v m g conn s ss rows e) (decisions.Refused cause)
  unfolding outside
  stopped_comes fault cause is named = subst (λ (x : Ending). MatchesOutcome v m s (outside v m g conn s ss rows x) (decisions.Refused cause)) (sym is) (sym named)

  pub large_comes : (r : Result Decision AllocError) (answer : StatementResult) → e ≡ TooLarge answer
      → IfOk r (MatchesOutcome v m s (unless (first_cause (log_full v) LogFull (row_cause rows answer (change_refusal m g conn name (m.base name).newest answer.after.pages base))) (Refused DatabaseFull)))
      → IfOk r (MatchesOutcome v m s (outside v m g conn s ss rows e))
  unfolding outside
  large_comes r answer is comes =
      subst (λ (x : Ending). IfOk r (MatchesOutcome v m s (outside v m g conn s ss rows x))) (sym is)
      (subst (λ (n : List ℕ). IfOk r (MatchesOutcome v m s (unless (first_cause (log_full v) LogFull (row_cause rows answer (change_refusal m g conn n (m.base n).newest answer.after.pages (m.base n).image))) (Refused DatabaseFull)))) (sym own) comes)

  module _ (r : Result Decision AllocError) (tx : ℕ) (ran : AllRan) (all : AllShown tx base e ran) where
    pages_are : (change_in ran).pages ≡ changed base all.to
    pages_are = ap (λ (set : PageSet). set.pages) all.change

    ended : (turned : Turned) → outside v m g conn s ss rows (Ended all.to ran.answer) ≡ turned → IfOk r (MatchesOutcome v m s turned) → IfOk r (MatchesOutcome v m s (outside v m g conn s ss rows e))
    ended turned is comes =
        subst (λ (x : Ending). IfOk r (MatchesOutcome v m s (outside v m g conn s ss rows x))) (sym all.is)
        (subst (λ (t : Turned). IfOk r (MatchesOutcome v m s t)) (sym is) comes)

    -- the change of the rules, by the name
    its_change : changed (m.base s.database).image all.to ≡ (change_in ran).pages
    its_change = ap (λ (n : List ℕ). changed (m.base n).image all.to) own ∙ sym pages_are

    is_idle : no_pages (change_in ran).pages ≡ true → outside v m g conn s ss rows (Ended all.to ran.answer) ≡ unless (row_cause rows ran.answer None) (Answers s (reply_of rows ran.answer) (Outside s.database ss))
    unfolding outside
    is_idle none =
        ap (λ (b : Bool). cond b (unless (row_cause rows ran.answer None) (Answers s (reply_of rows ran.answer) (Outside s.database ss))) (outside_write v m g conn s ss rows (changed (m.base s.database).image all.to) all.to ran.answer)) (ap no_pages its_change ∙ none)

    is_write : no_pages (change_in ran).pages ≡ false → outside v m g conn s ss rows (Ended all.to ran.answer) ≡ write_of v m g conn s name rows (change_in ran).pages all.to ran.answer (Outside s.database ss)
    unfolding outside outside_write
    is_write some =
        ap (λ (b : Bool). cond b (unless (row_cause rows ran.answer None) (Answers s (reply_of rows ran.answer) (Outside s.database ss))) (outside_write v m g conn s ss rows (changed (m.base s.database).image all.to) all.to ran.answer)) (ap no_pages its_change ∙ some)
        ∙ ap (λ (pages : List NumberedPage). outside_write v m g conn s ss rows pages all.to ran.answer) its_change
        ∙ ap (λ (n : List ℕ). write_of v m g conn s n rows (change_in ran).pages all.to ran.answer (Outside s.database ss)) own

    pub idle_comes : no_pages (change_in ran).pages ≡ true → IfOk r (MatchesOutcome v m s (unless (row_cause rows ran.answer None) (Answers s (reply_of rows ran.answer) (Outside s.database ss)))) → IfOk r (MatchesOutcome v m s (outside v m g conn s ss rows e))
    idle_comes none comes = ended (unless (row_cause rows ran.answer None) (Answers s (reply_of rows ran.answer) (Outside s.database ss))) (is_idle none) comes

    pub write_comes : no_pages (change_in ran).pages ≡ false → IfOk r (MatchesOutcome v m s (write_of v m g conn s name rows (change_in ran).pages all.to ran.answer (Outside s.database ss))) → IfOk r (MatchesOutcome v m s (outside v m g conn s ss rows e))
    write_comes some comes = ended (write_of v m g conn s name rows (change_in ran).pages all.to ran.answer (Outside s.database ss)) (is_write some) comes

    pub leads : LeadsTo (change_in ran).pages all.to
    leads = subst (λ (pages : List NumberedPage). LeadsTo pages all.to) (sym pages_are) (change_leads base all.to all.leads)
