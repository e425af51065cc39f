use Rattle.sqlite_engine.specs.Marking.{pins_of}
use Rattle.sqlite_engine.proofs.connection.execute.Given as goal

abbrev pub ghosts-execute_pinned : goal.ghosts-execute_pinned
ghosts-execute_pinned a = record { pinned = pins_of a.text.now.base.now a.text.now.marks }
