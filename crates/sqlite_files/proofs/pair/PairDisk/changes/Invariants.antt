use Rattle.sqlite_files.proofs.pair.PairDisk.changes.Given as goal

abbrev pub ghosts-taken_uncounted : goal.ghosts-taken_uncounted
ghosts-taken_uncounted a = record { name = a.blank.name; parts = a.blank.parts }
