-- Answers of an engine that are kept, and an engine that keeps its own.
use Rattle.std.specs.Prelude.{List, Bool, map, Result, Ok, Err}
use Rattle.sql_engine.specs.declared.answer.StatementResult.{StatementResult}
use Rattle.sql_engine.specs.declared.fault.EngineFault.{EngineFault}
use Rattle.sql_engine.specs.Meanings.{Told}
use Rattle.engine_recording.specs.declared.recorded_item.RecordedItem.{RecordedItem}
use Rattle.engine_recording.specs.declared.recorded_item.RecordedItem.TheVariants as items

-- the item that keeps this answer of an engine
abbrev pub note_of : Result StatementResult EngineFault → RecordedItem
note_of (Ok ran) = items.Ran ran
note_of (Err fault) = items.Fault fault

-- the answer of an engine that an item keeps
abbrev pub answer_of : RecordedItem → Result StatementResult EngineFault
answer_of (items.Ran ran) = Ok ran
answer_of (items.Fault fault) = Err fault

-- an engine, the items that it has kept since they were last taken, in the order in which they came, and whether it has ever
-- lost one
pub record Noting (E : Type 0) : Type 0 where
  pub engine : E
  pub noted : List RecordedItem
  pub cut : Bool

-- what an engine that keeps its answers reports: the answers that its items keep
abbrev pub told_by : List RecordedItem → Bool → Told
told_by noted cut = record { answers = map answer_of noted; cut = cut }
