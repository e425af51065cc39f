-- The outcome of statements that ran, by the pages that they changed together.
use Rattle.std.specs.Prelude.{◌≡◌, ℕ, Bool, true, false, is_none, List, length, Option, Some, None, Result, Ok, Err}
use Rattle.dq_base.specs.declared.images.Image.{Image}
use Rattle.dq_base.specs.declared.pages.NumberedPage.{NumberedPage}
use Rattle.dq_base.specs.Images.{page_count}
use Rattle.dq_base.specs.Applying.{page_fault}
use Rattle.sql_engine.specs.declared.answer.StatementResult.{StatementResult}
use Rattle.sql_engine.specs.Replies.{IsTable, Statement}
use Rattle.session_spec.specs.Causes.{LogFull}
use Rattle.session_spec.specs.Machine.{Machine}
use Rattle.session_spec.specs.Engines.{Answer, Ending as RuleEnding, takes, used, AllowsAll}
use Rattle.session_spec.specs.Sessions.{Session, Gateway, View, Transaction, Note, Writing, Turned, Proposes}
use Rattle.session_spec.specs.Limits.{log_full, first_cause, change_refusal}
use Rattle.session_spec.specs.Requests.{unless, row_cause, reply_of, change_of, flying, outside, inside, ground, run_in}
use Rattle.session_table.specs.declared.cause.Cause.{Cause}
use Rattle.session_statements.specs.declared.ending.Ending.{Ending}
use Rattle.session_statements.specs.declared.ending.Ending.TheVariants as endings
use Rattle.session_statements.specs.Calls.{EngineCall}
use Rattle.session_statements.specs.Running.{TellsAll}
use Rattle.session_outcomes.specs.declared.decision.Decision.{Decision}
use Rattle.session_outcomes.specs.Scenes.{Scene}
use Rattle.session_outcomes.specs.Turning.{MatchesOutcome}

-- the rows of an answer are a table, and pages that can't be applied can't
abbrev pub IsWellFormed : Ending → Type 0
IsWellFormed (endings.Ended ran) = IsTable ran.answer.columns ran.answer.rows
IsWellFormed (endings.TooLarge answer) = IsTable answer.columns answer.rows × (takes answer.after.pages ≡ false)
IsWellFormed (endings.Stopped fault) = Unit {0}

-- if nothing hinders pages they can be applied
abbrev pub AreTaken : List NumberedPage → Result ℕ Cause → Type 0
AreTaken pages (Ok count) = is_none (page_fault pages) ≡ true
AreTaken pages (Err cause) = Unit {0}

-- a write of a database outside a transaction, if nothing hinders it
abbrev pub write_of : View → Machine → Gateway → ℕ → Session → List ℕ → Bool → List NumberedPage → Image → StatementResult → Note → Turned
write_of v m g conn s name rows pages to answer note =
    unless (first_cause (log_full v) LogFull (row_cause rows answer (change_refusal m g conn name (m.base name).newest pages to)))
    (Proposes (flying v s name (change_of v name pages) (page_count to) (Writing (reply_of rows answer))) (change_of v name pages) note)

-- statements that ran end with this, in a transaction or outside of one
abbrev pub ran_in : View → Machine → Gateway → ℕ → Session → Option Transaction → List Statement → Bool → RuleEnding → Turned
ran_in v m g conn s None ss rows ended = outside v m g conn s ss rows ended
ran_in v m g conn s (Some x) ss rows ended = inside m g conn s x ss rows ended

-- There are answers that the engine may give to the statements over the session's image, and which it gave one after the
-- other. Running uses all of them, and by them the request ends with this.
pub record RunsTo (c : EngineCall) (at : Scene) (s : Session) (ss : List Statement) (rows : Bool) (decision : Decision) : Type 0 where
  pub answers : List Answer
  pub allowed : AllowsAll c.meaning c.kind (ground at.machine s s.tx) ss answers
  pub told : TellsAll answers c.told_before c.told_now
  pub exact : used (ground at.machine s s.tx) ss answers ≡ length answers
  pub is : MatchesOutcome at.view at.machine s (run_in at.view at.machine at.sessions at.conn s s.tx ss rows answers) decision
