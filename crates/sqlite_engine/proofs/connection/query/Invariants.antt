use Rattle.sqlite_engine.specs.Marking.{pins_of}
use Rattle.sqlite_engine.proofs.connection.query.Given as goal

abbrev pub ghosts-query_pinned : goal.ghosts-query_pinned
ghosts-query_pinned a = record { pinned = pins_of a.text.now.base.now a.text.now.marks }
