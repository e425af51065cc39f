-- The outcome of running statements one after another.
use Rattle.std.specs.Prelude.{◌≡◌, ℕ, Bool, true, false, List, [], ◌∷◌, length, unwrap_or, Option, Some, None, Ok, Err, if◌then◌else◌}
use Rattle.dq_base.specs.declared.images.Image.{Image}
use Rattle.dq_base.specs.declared.pages.PageSet.{PageSet}
use Rattle.dq_base.specs.Applying.{applied}
use Rattle.dq_base.specs.Changes.{changed}
use Rattle.sql_engine.specs.declared.answer.StatementResult.{StatementResult}
use Rattle.sql_engine.specs.declared.fault.EngineFault.{EngineFault}
use Rattle.sql_engine.specs.declared.fault.EngineFault.TheVariants as faults
use Rattle.sql_engine.specs.Replies.{Statement}
use Rattle.sql_engine.specs.Meanings.{Answers, Faults, Told, Tells}
use Rattle.session_spec.specs.Engines.{Answer, Ending, Lacking, TooLarge, Stopped, Ended, is_cut, takes, no_answer, runs, used, AllowsAll}
use Rattle.session_statements.specs.Calls.{EngineCall}
use Rattle.session_statements.specs.declared.ending.AllRan.{AllRan}
use Rattle.session_statements.specs.declared.ending.Ending.{Ending as CodeEnding}
use Rattle.session_statements.specs.declared.ending.Ending.TheVariants as codes
use Rattle.session_statements.specs.declared.running.UnsettledRun.{UnsettledRun}
use Rattle.session_statements.specs.declared.running.UnsettledRun.TheVariants as came
use Rattle.image_diff.specs.Reached.{change_to}

-- the engine told these answers one after the other
unfoldable pub TellsAll : List Answer → Option Told → Option Told → Type 0
TellsAll [] before now = before ≡ now
TellsAll (a ∷ rest) before now = (next : Option Told) × Tells a before next × TellsAll rest next now

-- the pages that statements changed together, as code has them: those of the only one, or those of all of them
abbrev pub change_in : AllRan → PageSet
change_in ran = unwrap_or ran.together ran.answer.after

-- how code shows an ending
abbrev pub Shows : ℕ → Image → Ending → CodeEnding → Type 0
Shows tx from Lacking ending = ⊥
Shows tx from (TooLarge answer) ending = ending ≡ codes.TooLarge answer
Shows tx from (Stopped fault) ending = ending ≡ codes.Stopped fault
Shows tx from (Ended to answer) ending = (ran : AllRan) × (ending ≡ codes.Ended ran) × (ran.answer ≡ answer)
    × (change_in ran ≡ record { tx = tx; pages = changed from to }) × (applied from (changed from to) ≡ to)

-- The outcome of running: there are answers that the engine may give and gave, all of them are used, and by them it ends so.
pub record RanTo (c : EngineCall) (tx : ℕ) (image : Image) (statements : List Statement) (ending : CodeEnding) : Type 0 where
  pub answers : List Answer
  pub allowed : AllowsAll c.meaning c.kind image statements answers
  pub told : TellsAll answers c.told_before c.told_now
  pub exact : used image statements answers ≡ length answers
  pub ends : Shows tx image (runs image no_answer statements answers) ending

-- All ran: there are answers that the engine may give and gave, all of them are used, and by them the statements lead to this
-- image and this last answer.
pub record Led (c : EngineCall) (image : Image) (statements : List Statement) (to : Image) (answer : StatementResult) : Type 0 where
  pub answers : List Answer
  pub allowed : AllowsAll c.meaning c.kind image statements answers
  pub told : TellsAll answers c.told_before c.told_now
  pub exact : used image statements answers ≡ length answers
  pub ends : runs image no_answer statements answers ≡ Ended to answer
  pub leads : applied image (changed image to) ≡ to

-- what it came to where it ended so, or else led to this image and this last answer
abbrev pub AdvancedTo : EngineCall → ℕ → Image → List Statement → Image → StatementResult → Option CodeEnding → Type 0
AdvancedTo c tx image ss to answer None = Led c image ss to answer
AdvancedTo c tx image ss to answer (Some ending) = RanTo c tx image ss ending

-- what it came to where it ended so, or else led to where this is told of, with this last answer
abbrev pub CameTo : EngineCall → ℕ → Image → List Statement → StatementResult → UnsettledRun → Type 0
CameTo c tx image ss answer (came.Through reached) = (to : Image) × Led c image ss to answer × (change_to image reached ≡ changed image to)
CameTo c tx image ss answer (came.Short ending) = RanTo c tx image ss ending

abbrev pub is_unopened : EngineFault → Bool
is_unopened faults.Constraint = false
is_unopened faults.Sql = false
is_unopened (faults.Float row column) = false
is_unopened (faults.NotText row column) = false
is_unopened faults.Unopened = true
is_unopened faults.Cut = false
is_unopened faults.NoMemory = false

-- running ended since the files of an image were not opened
abbrev pub ends_unopened : CodeEnding → Bool
ends_unopened (codes.Ended ran) = false
ends_unopened (codes.TooLarge answer) = false
ends_unopened (codes.Stopped fault) = is_unopened fault

abbrev pub stops_unopened : Option CodeEnding → Bool
stops_unopened None = false
stops_unopened (Some ending) = ends_unopened ending

abbrev pub came_unopened : UnsettledRun → Bool
came_unopened (came.Through reached) = false
came_unopened (came.Short ending) = ends_unopened ending

-- running ended since a statement took too many steps
abbrev pub ends_cut : CodeEnding → Bool
ends_cut (codes.Ended ran) = false
ends_cut (codes.TooLarge answer) = false
ends_cut (codes.Stopped fault) = is_cut fault

abbrev pub stops_cut : Option CodeEnding → Bool
stops_cut None = false
stops_cut (Some ending) = ends_cut ending

abbrev pub came_cut : UnsettledRun → Bool
came_cut (came.Through reached) = false
came_cut (came.Short ending) = ends_cut ending

-- how running the only statement ends by its answer
abbrev pub ending_of : StatementResult → CodeEnding
ending_of ran = if takes ran.after.pages then codes.Ended (record { together = None; answer = ran }) else codes.TooLarge ran

-- how running ended that ended with this over an image, with this last answer
abbrev pub ended : ℕ → Image → StatementResult → UnsettledRun → CodeEnding
ended tx image answer (came.Through reached) =
    codes.Ended (record { together = Some (record { tx = tx; pages = change_to image reached }); answer = answer })
ended tx image answer (came.Short ending) = ending

-- one more statement ran: its answer, and the image after its pages
pub record Went (c : EngineCall) (tx : ℕ) (from : Image) (s : Statement) (to : Image) (ran : StatementResult) : Type 0 where
  pub answers : Answers c.meaning from s tx ran
  pub told : Tells (Ok ran) c.told_before c.told_now
  pub taken : takes ran.after.pages ≡ true
  pub image : to ≡ applied from ran.after.pages

-- it was the last, since its pages can't be applied
pub record WentTooFar (c : EngineCall) (tx : ℕ) (from : Image) (s : Statement) (ran : StatementResult) : Type 0 where
  pub answers : Answers c.meaning from s tx ran
  pub told : Tells (Ok ran) c.told_before c.told_now
  pub refused : takes ran.after.pages ≡ false

-- it was the last, since the engine refuses it
pub record Failed (c : EngineCall) (from : Image) (s : Statement) (fault : EngineFault) : Type 0 where
  pub faults : Faults c.meaning c.kind from s fault
  pub told : Tells (Err fault) c.told_before c.told_now

abbrev pub Stepped : EngineCall → ℕ → Image → Statement → Image → StatementResult → Option CodeEnding → Type 0
Stepped c tx from s to ran None = Went c tx from s to ran
Stepped c tx from s to ran (Some (codes.TooLarge answer)) = WentTooFar c tx from s answer
Stepped c tx from s to ran (Some (codes.Stopped fault)) = Failed c from s fault
Stepped c tx from s to ran (Some (codes.Ended all)) = ⊥

-- an answer was taken in, or it ends running
abbrev pub TookIn : Image → StatementResult → Image → StatementResult → Option CodeEnding → Type 0
TookIn from ran to answer None = (takes ran.after.pages ≡ true) × (to ≡ applied from ran.after.pages) × (answer ≡ ran)
TookIn from ran to answer (Some ending) = (takes ran.after.pages ≡ false) × (ending ≡ codes.TooLarge ran)
