-- What is known of the files beneath a connection from one call to the next.
use Rattle.std.specs.Prelude.{◌≡◌, Bool, Option, Some}
use Rattle.sqlite_files.specs.Recording.{Recorded, PastFile, IsSince}

-- what is known of a file, by whether it is a log: what it was after an earlier call
abbrev pub IsPinned : (Bool → Option PastFile) → Recorded → Type 0
IsPinned pinned file = (past : PastFile) → pinned file.is_log ≡ Some past → IsSince past file.after file.stamps file.writes

-- what a file is now
abbrev pub now_of : Recorded → PastFile
now_of file = record { bytes = file.after; mark = file.writes }
