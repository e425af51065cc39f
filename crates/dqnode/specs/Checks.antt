-- What is reported of the files of a stopped node.
use Rattle.std.specs.Prelude.{◌≡◌, ◌⊎◌, ◌++◌, ℕ, List, [], codes, Option, Err}
use Rattle.std.specs.Fmt.{decimal}
use Rattle.std.specs.Io.KnownBytes.{Appends}
use Rattle.dq_base.specs.Sink.{AppendsFront}
use Rattle.disk_model.specs.Disk.{Disk}
use Rattle.disk_model.specs.Trait.{Text}
use Rattle.segment_store.specs.declared.load_fault.LoadFault.{LoadFault}
use Rattle.segment_store.specs.declared.load_fault.LoadFault.TheVariants as fault
use Rattle.segment_store.specs.Keeps.{folder}
use Rattle.segment_store.specs.Loading.{IsPlain, LookShows}
use Rattle.folder_check.specs.declared.ends.CheckEnd.{CheckEnd}
use Rattle.folder_check.specs.declared.ends.CheckEnd.TheVariants as ends
use Rattle.folder_check.specs.Checking.{HasLines, HasBadSnapshot, IsOfFiles}

-- the line of a fault of the files
abbrev pub load_line : LoadFault → List ℕ
load_line fault.NoMeta = codes "no metadata\n"
load_line (fault.Damaged segment at) = codes "damaged " ++ (decimal segment ++ (codes " " ++ (decimal at ++ codes "\n")))
load_line (fault.Gap first last) = codes "gap " ++ (decimal first ++ (codes " " ++ (decimal last ++ codes "\n")))
load_line fault.DiskFault = []
load_line fault.NoMemory = []

abbrev pub fault_line : CheckEnd → List ℕ
fault_line ends.Done = []
fault_line (ends.Damaged fault) = load_line fault
fault_line (ends.Snapshot index) = codes "bad snapshot " ++ (decimal index ++ codes "\n")
fault_line ends.DiskFault = []
fault_line ends.WriteFault = []
fault_line ends.NoMemory = []

-- the files have the fault of this end
abbrev pub HaveFault : CheckEnd → Disk Text → Type 0
HaveFault ends.Done d = ⊥
HaveFault (ends.Damaged fault) d = IsOfFiles fault × LookShows (Err fault) d
HaveFault (ends.Snapshot index) d = HasBadSnapshot index d
HaveFault ends.DiskFault d = ⊥
HaveFault ends.WriteFault d = ⊥
HaveFault ends.NoMemory d = ⊥

-- the text is that of the files: their lines, or the line of their fault
abbrev pub IsTextOf : Disk Text → List ℕ → Type 0
IsTextOf d text = HasLines text d ⊎ ((end : CheckEnd) × HaveFault end d × (text ≡ fault_line end))

-- A check of these files, by its status and by what was written before and after: their lines with 0, the line of their fault with
-- 8, and a front of one of both where the output failed.
pub record CheckTells (code : ℕ) (written written' : Option (List ℕ)) (d : Disk Text) : Type 0 where
  pub done : code ≡ 0 → (text : List ℕ) × HasLines text d × Appends written written' text
  pub fault : code ≡ 8 → (end : CheckEnd) × HaveFault end d × Appends written written' (fault_line end)
  pub broken : code ≡ 4 → (text : List ℕ) × IsTextOf d text × AppendsFront written written' text

-- Every file is as before, and this was told of the files.
abbrev pub CheckEnds : (Disk Text → Type 0) → (Disk Text → Type 0) → Option (List ℕ) → Option (List ℕ) → ℕ → Type 0
CheckEnds before after written written' code = (d : Disk Text) → before d → IsPlain (folder d) → after d × CheckTells code written written' d
