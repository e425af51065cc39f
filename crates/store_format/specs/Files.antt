-- The way in which the files of a node are read, except for its batches.
use Rattle.std.specs.Prelude.{ℕ}
use Rattle.store_laws.specs.Store.{Format, Reader}
use Rattle.store_laws.specs.Chance.{Lawful, LawfulReader}
use Rattle.store_format.specs.Words.{format_in}
use Rattle.store_format.specs.Metadata.{meta_in}
use Rattle.store_format.specs.Snapshots.{snap_of}

-- numbers of files have sixteen digits
abbrev pub files_format : (ℕ → Reader) → Format
files_format batch = record { version = format_in; batch = batch; meta = meta_in; snap = snap_of; numbers = 10000000000000000 }

abbrev pub ReadsLawfully : Type 0
ReadsLawfully = (batch : ℕ → Reader) → ((version : ℕ) → LawfulReader (batch version)) → Lawful (files_format batch)
