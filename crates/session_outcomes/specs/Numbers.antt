-- The working image that a decision gives a transaction, and the number that was drawn for it.
use Rattle.std.specs.Prelude.{ℕ, List, [], ◌∷◌, Option, Result, Ok, Err}
use Rattle.std.specs.declared.alloc.AllocError.{AllocError}
use Rattle.dq_base.specs.declared.images.Image.{Image}
use Rattle.dq_base.specs.declared.image_number.ImageNumber.{ImageNumber}
use Rattle.dq_base.specs.declared.image_number.ImageNumber.TheVariants.{Working}
use Rattle.sql_engine.specs.Known.{Known, MayRun}
use Rattle.database_state.specs.ImageNumbers.{Numbered}
use Rattle.session_statements.specs.Agreeing.{Stands}
use Rattle.session_statements.specs.Learning.{left_by}
use Rattle.session_statements.specs.declared.ending.Ending.{Ending}
use Rattle.session_table.specs.declared.session.Transaction.{Transaction}
use Rattle.session_table.specs.Working.{work_made}
use Rattle.session_outcomes.specs.declared.decision.Decision.{Decision}
use Rattle.session_outcomes.specs.declared.decision.Decision.TheVariants as decisions

-- the working image that a decision makes of a transaction's, by its number
abbrev pub work_in : Decision → Option Transaction → List Known
work_in (decisions.Refused cause) tx = []
work_in (decisions.Answers change reply) tx = work_made change tx
work_in (decisions.Begins at_once) tx = []
work_in decisions.Ends tx = []
work_in (decisions.Proposes flight entries) tx = []
work_in (decisions.Creates flight entries barriers) tx = []
work_in (decisions.Lends query job) tx = []
work_in (decisions.Affects effect) tx = []

-- the same where the decision may be missing because memory ran out
abbrev pub works_in : Result Decision AllocError → Option Transaction → List Known
works_in (Ok decision) tx = work_in decision tx
works_in (Err e) tx = []

-- the image that statements left, by the number that was drawn for it
abbrev pub work_left : Image → ℕ → Ending → List Known
work_left image number ending = record { number = Working number; image = left_by image ending } ∷ []

-- an engine may run over any of these images under its number, and the number that was drawn
abbrev pub MayRunOver : List Known → List Known → List Numbered → ℕ → Type 0
MayRunOver known works bases number = (before : ImageNumber) (image : Image) → Stands works bases before image
    → MayRun known image (record { before = before; after = number })
