use Rattle.sql_engine.proofs.SpelledCells.{text_is_statement}
use Rattle.sql_engine.proofs.laws.texts_say_statements.Goals as goal

pub returns : goal.returns
returns c = text_is_statement
