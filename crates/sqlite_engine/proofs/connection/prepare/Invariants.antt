use Rattle.sqlite_engine.specs.Marking.{pins_of}
use Rattle.sqlite_engine.proofs.connection.prepare.Given as goal

abbrev pub ghosts-prepare_pinned : goal.ghosts-prepare_pinned
ghosts-prepare_pinned a = record { pinned = pins_of a.text.now.base.now a.text.now.marks }
