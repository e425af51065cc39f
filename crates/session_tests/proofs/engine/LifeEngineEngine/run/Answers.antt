use Rattle.sql_engine.specs.Meanings.{untold}
use Rattle.session_tests.proofs.engine.LifeEngineEngine.run.Goals as goal

pub returns-then-self-clause-told : goal.returns-then-self-clause-told
returns-then-self-clause-told c = untold

pub returns-clause-told : goal.returns-clause-told
returns-clause-told c = untold
