-- The two files as the crate names them.
use Rattle.sqlite_wal.specs.Recovery as raw
use Rattle.sqlite_files.specs.Recording.{Recorded}

abbrev pub image_in : Recorded × Recorded → raw.Image
image_in p = record { log = p.0.after; db = p.1.after }
