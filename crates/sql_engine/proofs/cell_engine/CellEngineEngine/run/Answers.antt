use Rattle.sql_engine.specs.Meanings.{untold}
use Rattle.sql_engine.proofs.cell_engine.CellEngineEngine.run.Goals as goal

pub returns-clause-told : goal.returns-clause-told
returns-clause-told c = untold
