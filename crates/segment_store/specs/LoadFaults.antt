-- The faults of a load by those that it comes from.
use Rattle.store_format.specs.declared.fault.FilesFault.{FilesFault}
use Rattle.store_format.specs.declared.fault.FilesFault.TheVariants as files
use Rattle.segment_store.specs.declared.fault.StoreFault.{StoreFault}
use Rattle.segment_store.specs.declared.fault.StoreFault.TheVariants as store
use Rattle.segment_store.specs.declared.load_fault.LoadFault.{LoadFault}
use Rattle.segment_store.specs.declared.load_fault.LoadFault.TheVariants.{NoMeta, Damaged, Gap, DiskFault, NoMemory}

abbrev pub of_store : StoreFault → LoadFault
of_store store.DiskFault = DiskFault
of_store store.NoMemory = NoMemory

abbrev pub of_files : FilesFault → LoadFault
of_files files.NoMeta = NoMeta
of_files (files.Damaged d) = Damaged d.segment d.at
of_files (files.Gap first last) = Gap first last
