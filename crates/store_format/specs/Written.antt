-- What is written is read.
use Rattle.std.specs.Prelude.{◌≡◌, ℕ, suc, ◌<◌, ◌^◌, Bool, true, List, length}
use Rattle.store_format.specs.declared.metadata.Metadata.{Metadata}
use Rattle.store_format.specs.Metadata.{fits_side, meta_in, block_bytes}
use Rattle.store_format.specs.Snapshots.{snap_of, snapshot_bytes}

-- metadata that is written to the file of its version reads as it
abbrev pub MetadataReadsBack : Type 0
MetadataReadsBack = (m : Metadata) → m.version < 2 ^ 64 → m.term < 2 ^ 64 → m.vote < 2 ^ 64 → (first : Bool) → fits_side first m.version ≡ true
    → (length (block_bytes m) ≡ 40) × (meta_in first (block_bytes m) ≡ record { stamp = suc m.version; term = m.term; vote = m.vote })

-- a snapshot that is written to the file of its index reads as it
abbrev pub SnapshotReadsBack : Type 0
SnapshotReadsBack = (index term : ℕ) (bytes : List ℕ) → 0 < index → index < 2 ^ 64 → term < 2 ^ 64 → length bytes < 2 ^ 64
    → snap_of index (snapshot_bytes index term bytes) ≡ record { index = index; term = term; bytes = bytes }
