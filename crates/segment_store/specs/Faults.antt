-- Faults of the store, with their cause in a count of the disk's.
use Rattle.std.specs.Prelude.{◌≡◌, ◌≤◌, ◌⊎◌, ℕ, Result, Err, OnErr}
use Rattle.dq_base.specs.Faults.{Rose}
use Rattle.disk_model.specs.declared.faults.DiskFault.{DiskFault as DiskFaultOf}
use Rattle.disk_model.specs.declared.faults.DiskFault.TheVariants as disk
use Rattle.segment_store.specs.declared.fault.StoreFault.{StoreFault}
use Rattle.segment_store.specs.declared.fault.StoreFault.TheVariants.{DiskFault, NoMemory}

-- the store's fault for one of the disk
abbrev pub of_disk : DiskFaultOf → StoreFault
of_disk disk.Failed = DiskFault
of_disk disk.NoMemory = NoMemory

-- the disk's count did not fall, and it rose where the fault is the disk's
pub record DiskCause {T : Type 0} (before now : ℕ) (result : Result T StoreFault) : Type 0 where
  pub never_falls : before ≤ now
  pub failed : result ≡ Err DiskFault → Rose before now

-- After an Err the disk has failed, or has wanted memory, or is as it was: want of the store's own memory comes before the
-- first call. Its faults are counted before and after, and its wants.
abbrev pub StaysUnlessFailed : {D T E : Type 0} → D → D → ℕ → ℕ → ℕ → ℕ → Result T E → Type 0
StaysUnlessFailed was now faults faults_after wants wants_after result = OnErr result ((now ≡ was) ⊎ (Rose faults faults_after ⊎ Rose wants wants_after))
