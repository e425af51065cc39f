-- Faults of a node, with their cause in a count of the disk's.
use Rattle.std.specs.Prelude.{◌≡◌, ◌≤◌, ℕ, Result, Err}
use Rattle.dq_base.specs.Faults.{Rose}
use Rattle.segment_store.specs.declared.fault.StoreFault.{StoreFault}
use Rattle.segment_store.specs.declared.fault.StoreFault.TheVariants as store
use Rattle.segment_store.specs.declared.load_fault.LoadFault.{LoadFault}
use Rattle.segment_store.specs.declared.load_fault.LoadFault.TheVariants as load
use Rattle.node_core.specs.declared.fault.NodeFault.{NodeFault}
use Rattle.node_core.specs.declared.fault.NodeFault.TheVariants as node
use Rattle.node_core.specs.declared.fault.StartFault.{StartFault}
use Rattle.node_core.specs.declared.fault.StartFault.TheVariants as start

-- a step's fault for one of the store
abbrev pub of_store : StoreFault → NodeFault
of_store store.DiskFault = node.DiskFault
of_store store.NoMemory = node.NoMemory

-- a start's fault for one of the load
abbrev pub of_load : LoadFault → StartFault
of_load load.NoMeta = start.Damaged load.NoMeta
of_load (load.Damaged segment at) = start.Damaged (load.Damaged segment at)
of_load (load.Gap first last) = start.Damaged (load.Gap first last)
of_load load.DiskFault = start.DiskFault
of_load load.NoMemory = start.NoMemory

-- the disk's count did not fall in a part of a step, and it rose where the fault is the disk's
pub record StepCause {T : Type 0} (before now : ℕ) (result : Result T NodeFault) : Type 0 where
  pub never_falls : before ≤ now
  pub failed : result ≡ Err node.DiskFault → Rose before now

-- the same for a start
pub record StartCause {T : Type 0} (before now : ℕ) (result : Result T StartFault) : Type 0 where
  pub never_falls : before ≤ now
  pub failed : result ≡ Err start.DiskFault → Rose before now
