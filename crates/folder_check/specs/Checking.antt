-- What a check of a stopped node prints and answers.
use Rattle.std.specs.Prelude.{◌≡◌, ℕ, ◌≤◌, List, Option, Some, None, Result, Ok, Err, String, string_bytes}
use Rattle.std.specs.Io.KnownBytes.{Appends}
use Rattle.std.specs.declared.alloc.Global.{Global}
use Rattle.dq_base.specs.Faults.{Rose}
use Rattle.dq_base.specs.Sink.{AppendsFront}
use Rattle.disk_model.specs.Disk.{Disk}
use Rattle.disk_model.specs.Trait.{Text}
use Rattle.store_laws.specs.Store.{Kept, Loaded}
use Rattle.segment_store.specs.declared.load_fault.LoadFault.{LoadFault}
use Rattle.segment_store.specs.declared.load_fault.LoadFault.TheVariants as fault
use Rattle.segment_store.specs.Keeps.{folder}
use Rattle.segment_store.specs.Loading.{IsPlain, LookShows, kept_in}
use Rattle.folder_check.specs.declared.ends.CheckEnd.{CheckEnd}
use Rattle.folder_check.specs.declared.ends.CheckEnd.TheVariants as ends
use Rattle.folder_check.specs.Lines.{lines_of}

-- the files of the disk represent a state of which the lines are this text
pub record HasLines (text : List ℕ) (d : Disk Text) : Type 0 where
  pub kept : Kept
  pub reads : kept_in (folder d).read ≡ Loaded kept
  pub lines : lines_of kept ≡ Some text

-- they represent a state whose snapshot, of this index, isn't one of a node
pub record HasBadSnapshot (number : ℕ) (d : Disk Text) : Type 0 where
  pub kept : Kept
  pub reads : kept_in (folder d).read ≡ Loaded kept
  pub index : kept.snap.index ≡ number
  pub bad : lines_of kept ≡ None

-- a fault of the files themselves
abbrev pub IsOfFiles : LoadFault → Type 0
IsOfFiles fault.NoMeta = Unit {0}
IsOfFiles (fault.Damaged segment at) = Unit {0}
IsOfFiles (fault.Gap first last) = Unit {0}
IsOfFiles fault.DiskFault = ⊥
IsOfFiles fault.NoMemory = ⊥

-- an end before anything was printed
abbrev pub IsEarly : CheckEnd → Type 0
IsEarly ends.Done = ⊥
IsEarly (ends.Damaged fault) = IsOfFiles fault
IsEarly (ends.Snapshot index) = Unit {0}
IsEarly ends.DiskFault = Unit {0}
IsEarly ends.WriteFault = ⊥
IsEarly ends.NoMemory = Unit {0}

-- why it came, in the files
abbrev pub EarlyShows : CheckEnd → Disk Text → Type 0
EarlyShows ends.Done d = ⊥
EarlyShows (ends.Damaged fault) d = LookShows (Err fault) d
EarlyShows (ends.Snapshot index) d = HasBadSnapshot index d
EarlyShows ends.DiskFault d = Unit {0}
EarlyShows ends.WriteFault d = ⊥
EarlyShows ends.NoMemory d = Unit {0}

-- ---- the whole check

-- the end, by the files and by what was written before and after
abbrev pub CheckShows : CheckEnd → Option (List ℕ) → Option (List ℕ) → Disk Text → Type 0
CheckShows ends.Done was now d = (text : List ℕ) × (HasLines text d × Appends was now text)
CheckShows (ends.Damaged fault) was now d = IsOfFiles fault × LookShows (Err fault) d
CheckShows (ends.Snapshot index) was now d = HasBadSnapshot index d
CheckShows ends.DiskFault was now d = Unit {0}
CheckShows ends.WriteFault was now d = (text : List ℕ) × (HasLines text d × AppendsFront was now text)
CheckShows ends.NoMemory was now d = Unit {0}

-- the disk stays as it is
pub record Checks (before after : Disk Text → Type 0) (was now : Option (List ℕ)) (result : CheckEnd) : Type 0 where
  pub each : (d : Disk Text) → before d → IsPlain (folder d) → after d × CheckShows result was now d

-- nothing was written, unless the lines were
abbrev pub StaysUnlessPrinted : {K : Type 0} → CheckEnd → K → K → Type 0
StaysUnlessPrinted ends.Done was now = Unit {0}
StaysUnlessPrinted (ends.Damaged fault) was now = now ≡ was
StaysUnlessPrinted (ends.Snapshot index) was now = now ≡ was
StaysUnlessPrinted ends.DiskFault was now = now ≡ was
StaysUnlessPrinted ends.WriteFault was now = Unit {0}
StaysUnlessPrinted ends.NoMemory was now = now ≡ was

-- the count did not fall, and it rose where the end is this one
pub record EndCause (cause : CheckEnd) (before now : ℕ) (result : CheckEnd) : Type 0 where
  pub never_falls : before ≤ now
  pub failed : result ≡ cause → Rose before now

-- ---- its parts

-- the lines of what the files represent, or why there are none
abbrev pub ReportShows : Result (String Global) CheckEnd → Disk Text → Type 0
ReportShows (Ok text) d = HasLines (string_bytes text) d
ReportShows (Err end) d = EarlyShows end d

-- the disk stays as it is
pub record Reports (before after : Disk Text → Type 0) (result : Result (String Global) CheckEnd) : Type 0 where
  pub each : (d : Disk Text) → before d → IsPlain (folder d) → after d × ReportShows result d

-- the count did not fall, and it rose where the disk failed
pub record ReportCause (before now : ℕ) (result : Result (String Global) CheckEnd) : Type 0 where
  pub never_falls : before ≤ now
  pub failed : result ≡ Err ends.DiskFault → Rose before now

-- a text was written, or a front of it
abbrev pub Prints : CheckEnd → Option (List ℕ) → Option (List ℕ) → List ℕ → Type 0
Prints ends.Done was now text = Appends was now text
Prints (ends.Damaged fault) was now text = ⊥
Prints (ends.Snapshot index) was now text = ⊥
Prints ends.DiskFault was now text = ⊥
Prints ends.WriteFault was now text = AppendsFront was now text
Prints ends.NoMemory was now text = ⊥

-- the lines of a state, or why there are none
abbrev pub TellsKept : Kept → CheckEnd → Type 0
TellsKept k ends.Done = ⊥
TellsKept k (ends.Damaged fault) = ⊥
TellsKept k (ends.Snapshot index) = (k.snap.index ≡ index) × (lines_of k ≡ None)
TellsKept k ends.DiskFault = ⊥
TellsKept k ends.WriteFault = ⊥
TellsKept k ends.NoMemory = Unit {0}

-- the end of a look that failed
abbrev pub end_of : LoadFault → CheckEnd
end_of fault.NoMeta = ends.Damaged fault.NoMeta
end_of (fault.Damaged segment at) = ends.Damaged (fault.Damaged segment at)
end_of (fault.Gap first last) = ends.Damaged (fault.Gap first last)
end_of fault.DiskFault = ends.DiskFault
end_of fault.NoMemory = ends.NoMemory
