-- What is known of the files beneath a connection by the numbers of their calls.
use Rattle.std.specs.Prelude.{◌≡◌, Bool, true, false, Option, Some, None}
use Rattle.dq_base.specs.declared.images.Image.{Image}
use Rattle.sqlite_store.specs.FileStore.{files}
use Rattle.sqlite_files.specs.Recording.{PastFile, WasThen}
use Rattle.sqlite_open_files.specs.Pins.{IsPinned}
use Rattle.sqlite_engine.specs.declared.marks.Marks.{Marks}
use Rattle.sqlite_engine.specs.Sql.{Conn}

-- one of the files is the log, and the other isn't
pub record AreTold (c : Conn) : Type 0 where
  pub log : (files c.store).0.is_log ≡ true
  pub main : (files c.store).1.is_log ≡ false

-- the files were those of the image after the calls of these numbers
pub record IsMarked (base : Image) (marks : Marks) (c : Conn) : Type 0 where
  pub told : AreTold c
  pub side : WasThen base.side marks.side (files c.store).0
  pub main : WasThen base.main marks.main (files c.store).1

-- and so they were if there are numbers
abbrev pub AreMarked : Image → Option Marks → Conn → Type 0
AreMarked base marks c = (it : Marks) → marks ≡ Some it → IsMarked base it c

-- both files of a connection are as is known of them
pub record ArePinned (pinned : Bool → Option PastFile) (c : Conn) : Type 0 where
  pub log : IsPinned pinned (files c.store).0
  pub main : IsPinned pinned (files c.store).1

-- what is known of a file by marks, by whether it is the log
abbrev pub pins_of : Image → Option Marks → Bool → Option PastFile
pins_of base None is_log = None
pins_of base (Some marks) true = Some (record { bytes = base.side; mark = marks.side })
pins_of base (Some marks) false = Some (record { bytes = base.main; mark = marks.main })
