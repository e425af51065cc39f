-- What a reader says of its job, by how the query ended.
use Rattle.std.proofs.Common.{◌≡◌, ℕ, Bool, true, false, cond, List, [], ◌∷◌, Option, Some, None, Ok, Err, refl, sym, ap, subst, ◌∙◌}
use Rattle.wire_rows.specs.Answering.{parts_of}
use Rattle.dq_base.specs.declared.images.Image.{Image}
use Rattle.dq_base.specs.declared.pages.NumberedPage.{NumberedPage}
use Rattle.dq_base.specs.declared.pages.PageSet.{PageSet}
use Rattle.dq_base.specs.Changes.{changed}
use Rattle.sql_engine.specs.declared.answer.StatementResult.{StatementResult}
use Rattle.sql_engine.specs.declared.fault.EngineFault.{EngineFault}
use Rattle.sql_engine.specs.declared.kind.EngineKind.{EngineKind}
use Rattle.sql_engine.specs.Meanings.{Meaning, Told}
use Rattle.sql_engine.specs.Replies.{Statement}
use Rattle.session_spec.specs.Causes.{Cause as RuleCause, engine_cause}
use Rattle.session_spec.specs.Engines.{no_pages, Ending, Lacking, TooLarge, Stopped, Ended}
use Rattle.session_spec.specs.Requests.{rows_cause, rows_or, job_reply}
use Rattle.session_spec.specs.Sessions.{Reply, Refusal, Rows, Job}
use Rattle.session_table.specs.declared.cause.Cause.{Cause}
use Rattle.session_table.specs.Named.{cause_named, TellsRows}
use Rattle.session_statements.specs.declared.ending.AllRan.{AllRan}
use Rattle.session_statements.specs.declared.ending.Ending.{Ending as CodeEnding}
use Rattle.session_statements.specs.declared.ending.Ending.TheVariants as endings
use Rattle.session_statements.specs.Running.{RanTo, Shows, change_in}
use Rattle.session_outcomes.specs.Reading.{IsAnswered}
use Rattle.session_outcomes.proofs.Shown.{ran_of}
use Rattle.session_statements.specs.Calls.{call_of}

-- ---- rows

-- rows that can be sent
pub told_rows : (answer told : StatementResult) → TellsRows answer (Ok told) → Some (Rows told) ≡ Some (rows_or (rows_cause (parts_of answer.columns answer.rows)) answer)
told_rows answer told tells = ap (λ (r : StatementResult). Some (Rows r)) tells.0 ∙ ap (λ (o : Option RuleCause). Some (rows_or o answer)) (sym tells.1)

-- rows that can't
pub told_why : (answer : StatementResult) (cause : Cause) → TellsRows answer (Err cause) → Some (Refusal (cause_named cause)) ≡ Some (rows_or (rows_cause (parts_of answer.columns answer.rows)) answer)
told_why answer cause tells = ap (λ (o : Option RuleCause). Some (rows_or o answer)) (sym tells)

-- ---- endings

stopped_so : (a b : EngineFault) → endings.Stopped a ≡ endings.Stopped b → a ≡ b
stopped_so a b e = cc

ended_so : (a b : AllRan) → endings.Ended a ≡ endings.Ended b → a ≡ b
ended_so a b e = cc

not_stopped : (a : StatementResult) (b : EngineFault) → endings.TooLarge a ≡ endings.Stopped b → ⊥
not_stopped a b e = cc

ended_not_stopped : (a : AllRan) (b : EngineFault) → endings.Ended a ≡ endings.Stopped b → ⊥
ended_not_stopped a b e = cc

ended_not_large : (a : AllRan) (b : StatementResult) → endings.Ended a ≡ endings.TooLarge b → ⊥
ended_not_large a b e = cc

-- what code shows is an answer
pub shows_answered : (tx : ℕ) (from : Image) (e : Ending) (ending : CodeEnding) → Shows tx from e ending → IsAnswered e
shows_answered tx from Lacking ending shows = shows
shows_answered tx from (TooLarge answer) ending shows = tt
shows_answered tx from (Stopped fault) ending shows = tt
shows_answered tx from (Ended to answer) ending shows = tt

-- what ran over the image of a job, with its query
pub of_job : (job : Job) (m : Meaning) (kind : EngineKind) (before now : Option Told) (ending : CodeEnding) (image : Image) (statement : Statement) → image ≡ job.image → statement ≡ job.statement → RanTo (call_of m kind before now) 0 image (statement ∷ []) ending
    → RanTo (call_of m kind before now) 0 job.image (job.statement ∷ []) ending
of_job job m kind before now ending image statement over asks ran =
    subst (λ (i : Image). RanTo (call_of m kind before now) 0 i (job.statement ∷ []) ending) over (ran_of m kind 0 image before now ending statement job.statement asks ran)

module _ (job : Job) (tx : ℕ) (ending : CodeEnding) where
  -- the engine refused the query
  pub stopped : (e : Ending) (fault : EngineFault) → Shows tx job.image e ending → ending ≡ endings.Stopped fault → job_reply job e ≡ Some (Refusal (engine_cause fault))
  unfolding job_reply
  stopped Lacking fault shows is = absurd shows
  stopped (TooLarge answer) fault shows is = absurd (not_stopped answer fault (sym shows ∙ is))
  stopped (Stopped own) fault shows is = ap (λ (f : EngineFault). Some (Refusal (engine_cause f))) (stopped_so own fault (sym shows ∙ is))
  stopped (Ended to answer) fault shows is = absurd (ended_not_stopped shows.0 fault (sym shows.1 ∙ is))

  -- its pages can't be applied
  pub too_large : (e : Ending) (answer : StatementResult) → Shows tx job.image e ending → ending ≡ endings.TooLarge answer → job_reply job e ≡ None
  unfolding job_reply
  too_large Lacking answer shows is = absurd shows
  too_large (TooLarge own) answer shows is = refl
  too_large (Stopped fault) answer shows is = absurd (not_stopped answer fault (sym is ∙ shows))
  too_large (Ended to own) answer shows is = absurd (ended_not_large shows.0 answer (sym shows.1 ∙ is))

  -- it ran: it is told, if it changed no page, and goes back to the node where it did
  pub ended : (e : Ending) (ran : AllRan) → Shows tx job.image e ending → ending ≡ endings.Ended ran
      → job_reply job e ≡ cond (no_pages (change_in ran).pages) (Some (rows_or (rows_cause (parts_of ran.answer.columns ran.answer.rows)) ran.answer)) None
  unfolding job_reply
  ended Lacking ran shows is = absurd shows
  ended (TooLarge answer) ran shows is = absurd (ended_not_large ran answer (sym is ∙ shows))
  ended (Stopped fault) ran shows is = absurd (ended_not_stopped ran fault (sym is ∙ shows))
  ended (Ended to answer) ran shows is =
      let same : shows.0 ≡ ran = ended_so shows.0 ran (sym shows.1 ∙ is) in
      let answered : answer ≡ ran.answer = sym shows.2 ∙ ap (λ (r : AllRan). r.answer) same in
      let pages : changed job.image to ≡ (change_in ran).pages = sym (ap (λ (set : PageSet). set.pages) shows.3) ∙ ap (λ (r : AllRan). (change_in r).pages) same in
      ap (λ (ps : List NumberedPage). cond (no_pages ps) (Some (rows_or (rows_cause (parts_of answer.columns answer.rows)) answer)) None) pages
      ∙ ap (λ (a : StatementResult). cond (no_pages (change_in ran).pages) (Some (rows_or (rows_cause (parts_of a.columns a.rows)) a)) None) answered

  pub told : (e : Ending) (ran : AllRan) (reply : Option Reply) → Shows tx job.image e ending → ending ≡ endings.Ended ran → no_pages (change_in ran).pages ≡ true
      → reply ≡ Some (rows_or (rows_cause (parts_of ran.answer.columns ran.answer.rows)) ran.answer) → job_reply job e ≡ reply
  told e ran reply shows is none tells =
      ended e ran shows is ∙ ap (λ (b : Bool). cond b (Some (rows_or (rows_cause (parts_of ran.answer.columns ran.answer.rows)) ran.answer)) None) none ∙ sym tells

  pub given_back : (e : Ending) (ran : AllRan) → Shows tx job.image e ending → ending ≡ endings.Ended ran → no_pages (change_in ran).pages ≡ false → job_reply job e ≡ None
  given_back e ran shows is some = ended e ran shows is ∙ ap (λ (b : Bool). cond b (Some (rows_or (rows_cause (parts_of ran.answer.columns ran.answer.rows)) ran.answer)) None) some
