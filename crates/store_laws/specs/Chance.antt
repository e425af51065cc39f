-- No checksum matches by chance.
use Rattle.std.specs.Prelude.{◌≡◌, ◌≢◌, ◌⊎◌, ℕ, ◌%◌, ◌≤◌, Bool, true, false, List, [], ◌++◌, length, take}
use Rattle.store_laws.specs.Names.{First, Second, Segment, Snapshot, NodeFiles, NodeDisk}
use Rattle.disk_model.specs.Disk.{Held}
use Rattle.disk_model.specs.Genuine.{Genuine, WasWritten}
use Rattle.store_laws.specs.Store.{Format, Reader, opens, reader, is_whole}

-- a file that reads as metadata was written or was there
pub record MetaGenuine (f : Format) (side : Bool) (h : Held) (c : List ℕ) : Type 0 where
  pub whole : (f.meta side c).stamp ≢ 0 → Genuine h 0 c

-- so was each batch that a load reaches: one that reads right after a front of whole batches
pub record BatchesGenuine (f : Format) (h : Held) (c : List ℕ) : Type 0 where
  pub each : (front rest : List ℕ) → c ≡ front ++ rest → is_whole f front ≡ true → (reader f c rest).size ≢ 0
      → Genuine h (length front) (take (reader f c rest).size rest)

-- a file that reads as a snapshot held it at the last sync, or had it written whole since
pub record SnapGenuine (f : Format) (j : ℕ) (h : Held) (c : List ℕ) : Type 0 where
  pub whole : (f.snap j c).index ≢ 0 → (c ≡ h.bytes) ⊎ WasWritten h.since 0 c

-- the premise on one crash image
pub record NoChance (f : Format) (d : NodeDisk) (g : NodeFiles) : Type 0 where
  pub first : MetaGenuine f true (d.held First) (g First).bytes
  pub second : MetaGenuine f false (d.held Second) (g Second).bytes
  pub segment : (k : ℕ) → BatchesGenuine f (d.held (Segment k)) (g (Segment k)).bytes
  pub snapshot : (j : ℕ) → SnapGenuine f j (d.held (Snapshot j)) (g (Snapshot j)).bytes

-- a batch lies within the bytes, and its own bytes read as it, whatever follows
pub record LawfulReader (rd : Reader) : Type 0 where
  pub size_within : (x : List ℕ) → (rd x).size ≤ length x
  pub front_reads : (x y : List ℕ) → (rd x).size ≢ 0 → rd (take (rd x).size x ++ y) ≡ rd x

-- what the proofs use of the way of reading
pub record Lawful (f : Format) : Type 0 where
  pub batches : (version : ℕ) → LawfulReader (f.batch version)
  pub opens_long : (x : List ℕ) → opens f x ≡ true → 8 ≤ length x
  pub version_front : (x y : List ℕ) → 8 ≤ length x → f.version (x ++ y) ≡ f.version x
  pub snap_none : (j : ℕ) (x : List ℕ) → (f.snap j x).index ≡ 0 → f.snap j x ≡ record { index = 0; term = 0; bytes = [] }
  pub snap_nil : (j : ℕ) → (f.snap j []).index ≡ 0
  pub snap_number : (j : ℕ) (x : List ℕ) → (f.snap j x).index ≢ 0 → (f.snap j x).index ≡ j
  pub snap_exact : (j : ℕ) (x y : List ℕ) → (f.snap j x).index ≢ 0 → (f.snap j (x ++ y)).index ≢ 0 → y ≡ []
  pub meta_none : (side : Bool) (x : List ℕ) → (f.meta side x).stamp ≡ 0 → f.meta side x ≡ record { stamp = 0; term = 0; vote = 0 }
  pub meta_nil : (side : Bool) → (f.meta side []).stamp ≡ 0
  pub meta_long : (side : Bool) (x : List ℕ) → (f.meta side x).stamp ≢ 0 → length x ≡ 40
  pub even : (x : List ℕ) → (f.meta true x).stamp % 2 ≡ 0
  pub odd : (x : List ℕ) → (f.meta false x).stamp ≢ 0 → (f.meta false x).stamp % 2 ≡ 1
