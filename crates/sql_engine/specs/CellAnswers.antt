-- How an answer says what a statement of cells does.
use Rattle.std.specs.Prelude.{◌≡◌, ◌⊎◌, ℕ, None, Result, Ok, Err}
use Rattle.dq_base.specs.declared.images.Image.{Image}
use Rattle.dq_base.specs.Changes.{changed}
use Rattle.sql_engine.specs.declared.answer.StatementResult.{StatementResult}
use Rattle.sql_engine.specs.declared.fault.EngineFault.{EngineFault}
use Rattle.sql_engine.specs.declared.fault.EngineFault.TheVariants as faults
use Rattle.sql_engine.specs.Replies.{fault_in, plain_rows, IsTable}
use Rattle.sql_engine.specs.Meanings.{Refusal, constraint, sql, IsShort, reply_of}
use Rattle.sql_engine.specs.Cells.{Outcome}

-- the answer tells this outcome
pub record TellsOutcome (image : Image) (tx : ℕ) (outcome : Outcome) (ran : StatementResult) : Type 0 where
  pub short : IsShort outcome.after
  pub reply : reply_of ran ≡ outcome.reply
  pub pages : ran.after ≡ record { tx = tx; pages = changed image outcome.after }
  pub readable : fault_in (plain_rows ran.rows) ≡ None
  pub table : IsTable ran.columns ran.rows

-- the fault of a refusal
abbrev pub fault_of : Refusal → EngineFault
fault_of constraint = faults.Constraint
fault_of sql = faults.Sql

-- The result is that of what a statement does: its outcome is reported, or the refusal, or memory ran out.
abbrev pub Performs : Image → ℕ → Result Outcome Refusal → Result StatementResult EngineFault → Type 0
Performs image tx does (Ok ran) = (outcome : Outcome) × ((does ≡ Ok outcome) × TellsOutcome image tx outcome ran)
Performs image tx does (Err fault) = (fault ≡ faults.NoMemory) ⊎ ((refusal : Refusal) × ((does ≡ Err refusal) × (fault ≡ fault_of refusal)))
