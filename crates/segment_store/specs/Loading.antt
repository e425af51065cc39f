-- What a load answers and leaves.
use Rattle.std.specs.Prelude.{◌≡◌, ℕ, ◌≤◌, false, [], Option, Some, Result, Ok, Err, IfOk}
use Rattle.dq_base.specs.Faults.{Rose}
use Rattle.disk_model.specs.Disk.{Disk, Leaves}
use Rattle.disk_model.specs.Trait.{Text}
use Rattle.store_laws.specs.Names.{NodeFiles, NodeDisk, Name}
use Rattle.store_laws.specs.Store.{Outcome, Kept, Loaded, Damaged, NoMeta, Gap, kept}
use Rattle.store_laws.specs.Chance.{NoChance}
use Rattle.store_laws.specs.Damage.{damage}
use Rattle.store_format.specs.NodeFormat.{node_format}
use Rattle.segment_store.specs.declared.load_fault.LoadFault.{LoadFault}
use Rattle.segment_store.specs.declared.load_fault.LoadFault.TheVariants as fault
use Rattle.segment_store.specs.Open.{Open}
use Rattle.segment_store.specs.Keeps.{folder, HasNew}

-- what the files of a node represent: numbers of segments have sixteen digits
abbrev pub kept_in : NodeFiles → Outcome
kept_in g = kept node_format 10000000000000000 g

-- the first segment but the last that doesn't read to its end, and the place in it from which nothing reads
abbrev pub damage_in : NodeFiles → Option (ℕ × ℕ)
damage_in g = damage node_format 10000000000000000 g

-- what is read is what a crash may leave, as after a crash, and after a call of the store that failed
abbrev pub IsSeen : NodeDisk → Type 0
IsSeen d = Leaves d d.read

-- Each crash leaves what represents the same as some files that a crash might have left before, of which no checksum
-- matches by chance where none did of what was read; and what is read is what a crash may leave, so that the disk may be
-- loaded again.
pub record StaysSeen (d e : NodeDisk) : Type 0 where
  pub crash : (g : NodeFiles) → Leaves e g → NoChance node_format e g → (was : NodeFiles) × (Leaves d was × ((kept_in g ≡ kept_in was) × (NoChance node_format d d.read → NoChance node_format d was)))
  pub seen : IsSeen e

-- The store is open with what the files represented, and each crash leaves that.
pub record IsLoaded (s : Open) (k : Kept) (d e : NodeDisk) : Type 0 where
  pub reads : kept_in d.read ≡ Loaded k
  pub has : HasNew s k e

-- nothing changed, and this is what the files represent
abbrev pub Refused : Outcome → Disk Text → Disk Text → Type 0
Refused outcome d e = (e ≡ d) × (kept_in (folder d).read ≡ outcome)

-- the disk before a load and after it, by its answer
abbrev pub LoadLeaves : Result (Open × Kept) LoadFault → Disk Text → Disk Text → Type 0
LoadLeaves (Ok x) d e = IsLoaded x.0 x.1 (folder d) (folder e)
LoadLeaves (Err fault.NoMeta) d e = Refused NoMeta d e
LoadLeaves (Err (fault.Damaged segment at)) d e = Refused Damaged d e × (damage_in (folder d).read ≡ Some (segment, at))
LoadLeaves (Err (fault.Gap first last)) d e = Refused (Gap first last) d e
LoadLeaves (Err fault.DiskFault) d e = StaysSeen (folder d) (folder e)
LoadLeaves (Err fault.NoMemory) d e = StaysSeen (folder d) (folder e)

-- from each state that the disk may be said to be in
pub record Loads (before after : Disk Text → Type 0) (result : Result (Open × Kept) LoadFault) : Type 0 where
  pub each : (d : Disk Text) → before d → IsSeen (folder d) → (e : Disk Text) × (after e × LoadLeaves result d e)

-- a file that isn't there reads as an empty one
abbrev pub IsPlain : NodeDisk → Type 0
IsPlain d = (n : Name) → (d.read n).there ≡ false → (d.read n).bytes ≡ []

-- what a look at files answers
abbrev pub LookShows : Result Kept LoadFault → Disk Text → Type 0
LookShows (Ok k) d = kept_in (folder d).read ≡ Loaded k
LookShows (Err fault.NoMeta) d = kept_in (folder d).read ≡ NoMeta
LookShows (Err (fault.Damaged segment at)) d = (kept_in (folder d).read ≡ Damaged) × (damage_in (folder d).read ≡ Some (segment, at))
LookShows (Err (fault.Gap first last)) d = kept_in (folder d).read ≡ Gap first last
LookShows (Err fault.DiskFault) d = Unit {0}
LookShows (Err fault.NoMemory) d = Unit {0}

-- the disk stays as it is
pub record LooksAt (before after : Disk Text → Type 0) (result : Result Kept LoadFault) : Type 0 where
  pub each : (d : Disk Text) → before d → IsPlain (folder d) → after d × LookShows result d

-- the disk's count did not fall, and it rose where the fault is the disk's
pub record LoadCause {T : Type 0} (before now : ℕ) (result : Result T LoadFault) : Type 0 where
  pub never_falls : before ≤ now
  pub failed : result ≡ Err fault.DiskFault → Rose before now

-- a call that only reads, of a function with its own faults
pub record Sees {T E : Type 0} (before after : Disk Text → Type 0) (result : Result T E) (Shows : Disk Text → T → Type 0) : Type 0 where
  pub each : (d : Disk Text) → before d → after d × IfOk result (Shows d)
