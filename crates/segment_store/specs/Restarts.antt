-- What a start finds after a call of the store that was stopped or failed: the disk has crashed or not, and starts before it
-- may have been stopped or have failed too.
use Rattle.std.specs.Prelude.{◌≡◌, ◌⊎◌, ℕ, zero, suc, Result, Ok, Err}
use Rattle.disk_model.specs.Disk.{Disk, Leaves}
use Rattle.disk_model.specs.Rest.{AfterCrash}
use Rattle.disk_model.specs.Trait.{Text}
use Rattle.store_laws.specs.Names.{NodeFiles, NodeDisk}
use Rattle.store_laws.specs.Store.{Outcome, Snap, Log, Kept, Loaded, Damaged, NoMeta, Gap}
use Rattle.store_laws.specs.Chance.{NoChance}
use Rattle.store_laws.specs.Snapshots.{Longer, Left}
use Rattle.store_format.specs.NodeFormat.{node_format}
use Rattle.segment_store.specs.declared.load_fault.LoadFault.{LoadFault}
use Rattle.segment_store.specs.declared.load_fault.LoadFault.TheVariants as fault
use Rattle.segment_store.specs.Open.{Open}
use Rattle.segment_store.specs.Keeps.{folder, OldOrNew, HasNew}
use Rattle.segment_store.specs.Keeping.{OldOrKept}
use Rattle.segment_store.specs.Loading.{kept_in, IsSeen, StaysSeen, LoadLeaves}

-- The files represent a state of this kind, whatever a crash leaves of them; and what is read is what a crash may leave.
pub record StandsFor (P : Outcome → Type 0) (d : NodeDisk) : Type 0 where
  pub crash : (g : NodeFiles) → Leaves d g → NoChance node_format d g → P (kept_in g)
  pub seen : IsSeen d

-- A start finds the disk as it is, or after a crash, and no checksum matches by chance in what it reads.
pub record Begins (d e : Disk Text) : Type 0 where
  pub came : (e ≡ d) ⊎ AfterCrash d e
  pub fair : NoChance node_format (folder d) (folder e).read

-- this many starts, one after another, whose loads were stopped or failed
abbrev pub FailedStarts : ℕ → Disk Text → Disk Text → Type 0
FailedStarts zero d e = e ≡ d
FailedStarts (suc n) d e = (m : Disk Text) × ((f : Disk Text) × (Begins d m × (StaysSeen (folder m) (folder f) × FailedStarts n f e)))

-- what a load answers and leaves then: a state of this kind, or another start finds one
abbrev pub Finds : (Outcome → Type 0) → Result (Open × Kept) LoadFault → Disk Text → Type 0
Finds P (Ok x) f = P (Loaded x.1) × HasNew x.0 x.1 (folder f)
Finds P (Err fault.NoMeta) f = P NoMeta
Finds P (Err (fault.Damaged segment at)) f = P Damaged
Finds P (Err (fault.Gap first last)) f = P (Gap first last)
Finds P (Err fault.DiskFault) f = StandsFor P (folder f)
Finds P (Err fault.NoMemory) f = StandsFor P (folder f)

-- the state before the call or the new one; no damage, no gap, and metadata is there
abbrev pub OneState : Kept → Kept → Outcome → Type 0
OneState old new (Loaded k) = (k ≡ old) ⊎ (k ≡ new)
OneState old new Damaged = ⊥
OneState old new NoMeta = ⊥
OneState old new (Gap first last) = ⊥

-- the new snapshot with the log that was given, maybe with a longer part of the log that was kept before
pub record IsWith (old : Kept) (s : Snap) (new : Log) (k : Kept) : Type 0 where
  pub log : Log
  pub is : k ≡ record { term = old.term; vote = old.vote; snap = s; log = log }
  pub longer : Longer log new
  pub left : Left s old.log new log

abbrev pub OldOrWith : Kept → Snap → Log → Outcome → Type 0
OldOrWith old s new (Loaded k) = (k ≡ old) ⊎ IsWith old s new k
OldOrWith old s new Damaged = ⊥
OldOrWith old s new NoMeta = ⊥
OldOrWith old s new (Gap first last) = ⊥

-- what some files represent that a crash might have left, in which no checksum matches by chance
pub record MayHave (d : NodeDisk) (outcome : Outcome) : Type 0 where
  pub files : NodeFiles
  pub left : Leaves d files
  pub fair : NoChance node_format d files
  pub is : outcome ≡ kept_in files

-- ---- the laws

-- a term and a vote, or a batch, of which a call failed or was stopped
abbrev pub OldOrNewStarts : Type 0
OldOrNewStarts = (old new : Kept) (d e m f : Disk Text) (n : ℕ) (answer : Result (Open × Kept) LoadFault) → OldOrNew old new (folder d)
    → FailedStarts n d e → Begins e m → LoadLeaves answer m f → Finds (OneState old new) answer f

-- a snapshot, of which a call failed or was stopped
abbrev pub OldOrKeptStarts : Type 0
OldOrKeptStarts = (old : Kept) (s : Snap) (new : Log) (d e m f : Disk Text) (n : ℕ) (answer : Result (Open × Kept) LoadFault) → OldOrKept old s new (folder d)
    → FailedStarts n d e → Begins e m → LoadLeaves answer m f → Finds (OldOrWith old s new) answer f

-- a call that was Ok, or none
abbrev pub KeptStarts : Type 0
KeptStarts = (s : Open) (k : Kept) (d e m f : Disk Text) (n : ℕ) (answer : Result (Open × Kept) LoadFault) → HasNew s k (folder d)
    → FailedStarts n d e → Begins e m → LoadLeaves answer m f → Finds (OneState k k) answer f

-- loads alone that failed or were stopped
abbrev pub LoadStarts : Type 0
LoadStarts = (d e m f : Disk Text) (n : ℕ) (answer : Result (Open × Kept) LoadFault) → IsSeen (folder d)
    → FailedStarts n d e → Begins e m → LoadLeaves answer m f → Finds (MayHave (folder d)) answer f
