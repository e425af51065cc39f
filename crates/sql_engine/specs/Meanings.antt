-- What statements mean under engines of a kind, and what an answer of an engine says of it.
use Rattle.std.specs.Prelude.{◌≡◌, ◌<◌, ◌≤◌, ◌^◌, ⊤, ℕ, Bool, true, false, List, [], ◌∷◌, ◌++◌, length, Option, Some, None, IsSome, Result, Err}
use Rattle.dq_base.specs.declared.images.Image.{Image}
use Rattle.dq_base.specs.Changes.{changed}
use Rattle.sql_engine.specs.declared.answer.StatementResult.{StatementResult}
use Rattle.sql_engine.specs.declared.kind.EngineKind.{EngineKind}
use Rattle.sql_engine.specs.declared.kind.EngineKind.TheVariants.{Sqlite}
use Rattle.sql_engine.specs.declared.fault.EngineFault.{EngineFault}
use Rattle.sql_engine.specs.declared.fault.EngineFault.TheVariants as faults
use Rattle.sql_engine.specs.Replies.{Statement, Reply, fault_in, plain_rows, IsTable}

-- why the meaning of a statement on an image refuses it
pub data Refusal : Type 0 where
  constraint : Refusal
  sql : Refusal

-- What statements mean: `runs before statement after reply` says that on the image before the statement may give this reply
-- and leave the image after; `refuses image statement refusal`, that on the image it may be refused so.
pub record Meaning : Type 1 where
  pub runs : Image → Statement → Image → Reply → Type 0
  pub refuses : Image → Statement → Refusal → Type 0

-- the files of an image are shorter than 2 ^ 64 bytes
pub record IsShort (image : Image) : Type 0 where
  pub main : length image.main < 2 ^ 64
  pub side : length image.side < 2 ^ 64

-- the reply that an answer represents
abbrev pub reply_of : StatementResult → Reply
reply_of ran = record { affected = ran.affected; columns = ran.columns; rows = plain_rows ran.rows }

-- The answer is a reply that the statement may give on the image, which the wire can carry, with the pages that lead to the
-- image that the statement leaves then.
pub record Answers (m : Meaning) (image : Image) (s : Statement) (tx : ℕ) (ran : StatementResult) : Type 0 where
  pub after : Image
  pub short : IsShort after
  pub runs : m.runs image s after (reply_of ran)
  pub pages : ran.after ≡ record { tx = tx; pages = changed image after }
  pub readable : fault_in (plain_rows ran.rows) ≡ None
  pub table : IsTable ran.columns ran.rows

-- the statement may give a reply that the wire can't carry, for this fault
pub record CantBeTold (m : Meaning) (image : Image) (s : Statement) (fault : EngineFault) : Type 0 where
  pub after : Image
  pub reply : Reply
  pub runs : m.runs image s after reply
  pub found : fault_in reply.rows ≡ Some fault

-- What a fault says: the statement may be refused so, or it may give a reply that the wire can't carry. Only an engine of
-- SQLite opens files, and counts steps. Out of memory says nothing.
abbrev pub Faults : Meaning → EngineKind → Image → Statement → EngineFault → Type 0
Faults m kind image s faults.Constraint = m.refuses image s constraint
Faults m kind image s faults.Sql = m.refuses image s sql
Faults m kind image s (faults.Float row column) = CantBeTold m image s (faults.Float row column)
Faults m kind image s (faults.NotText row column) = CantBeTold m image s (faults.NotText row column)
Faults m kind image s faults.Unopened = kind ≡ Sqlite
Faults m kind image s faults.Cut = kind ≡ Sqlite
Faults m kind image s faults.NoMemory = ⊤

-- a statement is interrupted only if there is a limit
abbrev pub IsCutBy : Option ℕ → Result StatementResult EngineFault → Type 0
IsCutBy limit result = result ≡ Err faults.Cut → IsSome limit

-- an engine stays what it is: its kind stays, and its count of refused openings does not fall
pub record Stays (kind_before kind_now : EngineKind) (refused_before refused_now : ℕ) : Type 0 where
  pub kind : kind_now ≡ kind_before
  pub openings : refused_before ≤ refused_now

-- the count of refused openings rose where the answer is that the files were not opened
abbrev pub CountsOpenings : ℕ → ℕ → Result StatementResult EngineFault → Type 0
CountsOpenings before now result = result ≡ Err faults.Unopened → before < now

-- the answers that an engine has given so far, and whether it has lost one since
pub record Told : Type 0 where
  pub answers : List (Result StatementResult EngineFault)
  pub cut : Bool

-- An engine that reports its answers adds this one to them, while it has lost none; or it has lost one, and then the
-- answer means out of memory. One that reports none continues so.
pub data Tells (result : Result StatementResult EngineFault) : Option Told → Option Told → Type 0 where
  untold : Tells result None None
  added : (answers : List (Result StatementResult EngineFault)) → Tells result (Some (record { answers = answers; cut = false })) (Some (record { answers = answers ++ result ∷ []; cut = false }))
  lost : (answers : List (Result StatementResult EngineFault)) (cut : Bool) → result ≡ Err faults.NoMemory → Tells result (Some (record { answers = answers; cut = cut })) (Some (record { answers = answers; cut = true }))

-- what a fork tells: no answer so far, if the engine reports its answers
abbrev pub told_anew : Option Told → Option Told
told_anew None = None
told_anew (Some told) = Some (record { answers = []; cut = false })
