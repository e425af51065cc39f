-- What an engine answers to the statements of a request, and statements that run one after another by its answers.
use Rattle.std.specs.Prelude.{ℕ, suc, Bool, true, false, ◌||◌, List, [], ◌∷◌, is_none, Option, Some, None, Result, Ok, Err, if◌then◌else◌}
use Rattle.dq_base.specs.declared.images.Image.{Image}
use Rattle.dq_base.specs.declared.pages.NumberedPage.{NumberedPage}
use Rattle.dq_base.specs.Applying.{page_fault}
pub use Rattle.image_diff.specs.Touched.{no_pages}
use Rattle.sql_engine.specs.declared.answer.StatementResult.{StatementResult}
use Rattle.sql_engine.specs.declared.kind.EngineKind.{EngineKind}
use Rattle.sql_engine.specs.declared.fault.EngineFault.{EngineFault}
use Rattle.sql_engine.specs.declared.fault.EngineFault.TheVariants as engine_faults
use Rattle.sql_engine.specs.Replies.{Statement}
use Rattle.sql_engine.specs.Meanings.{Meaning, Faults}
use Rattle.sql_engine.specs.Meanings.{Answers as MayAnswer}
use Rattle.database_state.specs.Files.{image_after}

-- an answer of an engine to a statement
abbrev pub Answer : Type 0
Answer = Result StatementResult EngineFault

-- the pages can be applied; none always can
unfoldable pub takes : List NumberedPage → Bool
takes pages = no_pages pages || is_none (page_fault pages)

-- How running statements ends: an answer is missing; a statement's pages can't be applied; it was refused; or all ran and
-- lead to an image, and the last of them answers so.
pub data Ending : Type 0 where
  Lacking : Ending
  TooLarge : (answer : StatementResult) → Ending
  Stopped : (fault : EngineFault) → Ending
  Ended : (to : Image) (answer : StatementResult) → Ending

-- the engine gave the statement up, as it took too many steps
abbrev pub is_cut : EngineFault → Bool
is_cut engine_faults.Constraint = false
is_cut engine_faults.Sql = false
is_cut (engine_faults.Float row column) = false
is_cut (engine_faults.NotText row column) = false
is_cut engine_faults.Unopened = false
is_cut engine_faults.Cut = true
is_cut engine_faults.NoMemory = false

-- the answer where no statement ran
abbrev pub no_answer : StatementResult
no_answer = record { after = record { tx = 0; pages = [] }; affected = 0; columns = []; rows = [] }

-- Statements run over an image, one after another: each over the image before with the pages that the engine answered.
unfoldable pub runs : Image → StatementResult → List Statement → List Answer → Ending
runs image last [] answers = Ended image last
runs image last (s ∷ ss) [] = Lacking
runs image last (s ∷ ss) (Ok ran ∷ answers) = if takes ran.after.pages then runs (image_after image ran.after.pages) ran ss answers else TooLarge ran
runs image last (s ∷ ss) (Err fault ∷ answers) = Stopped fault

-- how many of these answers the statements use
unfoldable pub used : Image → List Statement → List Answer → ℕ
used image [] answers = 0
used image (s ∷ ss) [] = 0
used image (s ∷ ss) (Ok ran ∷ answers) = suc (if takes ran.after.pages then used (image_after image ran.after.pages) ss answers else 0)
used image (s ∷ ss) (Err fault ∷ answers) = 1

-- ---- what an engine may answer

-- What an engine of a kind, with this meaning, may answer to a statement on an image.
abbrev pub Allows : Meaning → EngineKind → Image → Statement → Answer → Type 0
Allows m kind image s (Ok ran) = (tx : ℕ) × MayAnswer m image s tx ran
Allows m kind image s (Err fault) = Faults m kind image s fault

-- if pages were told that can't be applied, no further statement runs
abbrev pub AllowsRest : Bool → Type 0 → Type 0
AllowsRest true rest = rest
AllowsRest false rest = Unit {0}

-- each answer that is used is one that the engine may give to its statement on its image
abbrev pub AllowsAll : Meaning → EngineKind → Image → List Statement → List Answer → Type 0
AllowsAll m kind image [] answers = Unit {0}
AllowsAll m kind image (s ∷ ss) [] = Unit {0}
AllowsAll m kind image (s ∷ ss) (Ok ran ∷ answers) = Allows m kind image s (Ok ran) × AllowsRest (takes ran.after.pages) (AllowsAll m kind (image_after image ran.after.pages) ss answers)
AllowsAll m kind image (s ∷ ss) (Err fault ∷ answers) = Allows m kind image s (Err fault)

-- what is handed to an engine, if anything: an image, and the statements to run over it
pub record Handed : Type 0 where
  pub image : Image
  pub statements : List Statement

-- the answers are ones that the engine may give to what was handed to it
abbrev pub AllowsFor : Meaning → EngineKind → Option Handed → List Answer → Type 0
AllowsFor m kind None answers = Unit {0}
AllowsFor m kind (Some handed) answers = AllowsAll m kind handed.image handed.statements answers

-- how many of these answers are used for what was handed over
abbrev pub used_for : Option Handed → List Answer → ℕ
used_for None answers = 0
used_for (Some handed) answers = used handed.image handed.statements answers
