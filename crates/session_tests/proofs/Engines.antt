-- What an engine of cells may answer, an engine of SQLite may to which statements mean the same.
use Rattle.std.proofs.Common.{Result, Ok, Err}
use Rattle.std.specs.Prelude.{IfErr}
use Rattle.dq_base.specs.declared.images.Image.{Image}
use Rattle.sql_engine.specs.declared.answer.StatementResult.{StatementResult}
use Rattle.sql_engine.specs.declared.fault.EngineFault.{EngineFault}
use Rattle.sql_engine.specs.declared.fault.EngineFault.TheVariants as faults
use Rattle.sql_engine.specs.declared.kind.EngineKind.TheVariants.{Cells, Sqlite}
use Rattle.sql_engine.specs.Meanings.{Meaning, Faults}
use Rattle.sql_engine.specs.Replies.{Statement}

same_fault : (m : Meaning) (image : Image) (s : Statement) (fault : EngineFault) → Faults m Cells image s fault → Faults m Sqlite image s fault
same_fault m image s faults.Constraint h = h
same_fault m image s faults.Sql h = h
same_fault m image s (faults.Float row column) h = h
same_fault m image s (faults.NotText row column) h = h
same_fault m image s faults.Unopened h = cc
same_fault m image s faults.Cut h = cc
same_fault m image s faults.NoMemory h = h

pub of_cells : (m : Meaning) (image : Image) (s : Statement) (result : Result StatementResult EngineFault) → IfErr result (Faults m Cells image s) → IfErr result (Faults m Sqlite image s)
of_cells m image s (Ok ran) h = h
of_cells m image s (Err fault) h = same_fault m image s fault h
