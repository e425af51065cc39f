-- The last segment of a folder, by the names that the folder lists.
use Rattle.std.specs.Prelude.{◌≡◌, ℕ, ◌<◌, ◌≤◌, Bool, true, nat_lt, List, ◌++◌, ◌∷◌, [], Option, Some, None, MatchOption}
use Rattle.disk_model.specs.SyncAll.{Among}
use Rattle.store_laws.specs.Names.{Segment, NodeFiles}
use Rattle.segment_store.specs.FileNames.{file_name}
use Rattle.folder_tail.specs.declared.folder.SegmentFile.{SegmentFile}
use Rattle.folder_tail.specs.declared.folder.SegmentBytes.{SegmentBytes}

-- the number of the segment whose file has this name, if one has
abbrev pub IsNumberOf : List ℕ → Option ℕ → Type 0
IsNumberOf text number =
    MatchOption number ((n : ℕ) → n < 10000000000000000 → text ≡ file_name (Segment n) → ⊥)
    (λ n. (n < 10000000000000000) × (text ≡ file_name (Segment n)))

abbrev pub is_after : ℕ → Option SegmentFile → Bool
is_after n None = true
is_after n (Some best) = nat_lt best.number n

-- a file has the name of its number, which has sixteen digits
abbrev pub IsNamed : Option SegmentFile → Type 0
IsNamed None = Unit {0}
IsNamed (Some file) = (file.number < 10000000000000000) × (file.name ≡ file_name (Segment file.number))

-- the segment of the greatest number among names
abbrev pub IsGreatest : List (List ℕ) → Option SegmentFile → Type 0
IsGreatest names None = (n : ℕ) → n < 10000000000000000 → Among (file_name (Segment n)) names → ⊥
IsGreatest names (Some file) =
    IsNamed (Some file) × (Among (file_name (Segment file.number)) names ×
    ((n : ℕ) → n < 10000000000000000 → Among (file_name (Segment n)) names → n ≤ file.number))

-- one name more
abbrev pub TakesName : List ℕ → Option SegmentFile → Option SegmentFile → Type 0
TakesName name old new = (names : List (List ℕ)) → IsGreatest names old → IsGreatest (names ++ name ∷ []) new

-- no segment has a greater number
pub record IsLast (n : ℕ) (g : NodeFiles) : Type 0 where
  pub there : (g (Segment n)).there ≡ true
  pub last : (m : ℕ) → m < 10000000000000000 → (g (Segment m)).there ≡ true → m ≤ n

-- the last segment is this one, or no segment exists
abbrev pub IsLastFile : Option SegmentFile → NodeFiles → Type 0
IsLastFile None g = (n : ℕ) → n < 10000000000000000 → (g (Segment n)).there ≡ true → ⊥
IsLastFile (Some file) g = IsLast file.number g

-- the last segment was read, or no segment exists
abbrev pub IsLastRead : Option SegmentBytes → NodeFiles → Type 0
IsLastRead None g = (n : ℕ) → n < 10000000000000000 → (g (Segment n)).there ≡ true → ⊥
IsLastRead (Some x) g = IsLast x.number g × (x.bytes.items ≡ (g (Segment x.number)).bytes)

abbrev pub HasDigits : Option SegmentBytes → Type 0
HasDigits None = Unit {0}
HasDigits (Some x) = x.number < 10000000000000000
