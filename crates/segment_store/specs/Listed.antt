-- The files of a node that a folder lists.
use Rattle.std.specs.Prelude.{◌≡◌, ℕ, suc, ◌+◌, ◌-◌, ◌*◌, ◌<◌, ◌≤◌, Bool, true, false, ◌&&◌, cond, nat_lt, nat_le, List, [], ◌∷◌, ◌++◌, length, Option, Some, None}
use Rattle.std.specs.List.{insert, list_any}
use Rattle.std.specs.Str.{bytes_eq}
use Rattle.dq_base.specs.Names.{IsName}
use Rattle.disk_model.specs.SyncAll.{Among}
use Rattle.store_laws.specs.Names.{Name, First, Second, Segment, Snapshot, NodeDisk}
use Rattle.store_laws.specs.Snapshots.{AllBelow}
use Rattle.segment_store.specs.declared.names.File.{File}
use Rattle.segment_store.specs.declared.names.File.TheVariants as files
use Rattle.segment_store.specs.FileNames.{file_name, name_of, number_of}
use Rattle.segment_store.specs.Open.{is_listed, segment_numbers, snapshot_numbers}

-- one digit more after a number of fewer than sixteen
abbrev pub digits_in : ℕ → ℕ → Option ℕ
digits_in n c = cond (nat_lt n 1000000000000000 && (nat_le 48 c && nat_le c 57)) (Some (n * 10 + (c - 48))) None

-- digits after a number
abbrev pub then_digits : (ℕ → Option ℕ) → Option ℕ → Option ℕ
then_digits rest None = None
then_digits rest (Some n) = rest n

unfoldable pub read_digits : ℕ → List ℕ → Option ℕ
read_digits n [] = Some n
read_digits n (c ∷ cs) = then_digits (λ m. read_digits m cs) (digits_in n c)

-- the number of a file, and 0 where it has none
abbrev pub numbered : Name → ℕ
numbered First = 0
numbered Second = 0
numbered (Segment k) = k
numbered (Snapshot j) = j

-- the file that a name is of: each text is the name of one file or of none
abbrev pub IsFile : List ℕ → Option File → Type 0
IsFile text None = (n : Name) → numbered n < 10000000000000000 → text ≡ file_name n → ⊥
IsFile text (Some file) = (text ≡ file_name (name_of file)) × (number_of file < 10000000000000000)

-- how many numbers at the front are below a number
unfoldable pub place_for : ℕ → List ℕ → ℕ
place_for n [] = 0
place_for n (x ∷ xs) = cond (nat_lt x n) (suc (place_for n xs)) 0

-- a number comes to its place among ascending ones
unfoldable pub with_number : ℕ → List ℕ → List ℕ
with_number n xs = cond (is_listed n xs) xs (insert xs (place_for n xs) n)

-- the files that were listed, in turn; which files of metadata are there; and the numbers of segments and of snapshots,
-- ascending
pub record FolderList : Type 0 where
  pub files : List File
  pub first : Bool
  pub second : Bool
  pub segments : List ℕ
  pub snapshots : List ℕ

abbrev pub nothing_listed : FolderList
nothing_listed = record { files = []; first = false; second = false; segments = []; snapshots = [] }

abbrev pub with_file : File → FolderList → FolderList
with_file files.First l = record { files = l.files ++ files.First ∷ []; first = true; second = l.second; segments = l.segments; snapshots = l.snapshots }
with_file files.Second l = record { files = l.files ++ files.Second ∷ []; first = l.first; second = true; segments = l.segments; snapshots = l.snapshots }
with_file (files.Segment k) l = record { files = l.files ++ files.Segment k ∷ []; first = l.first; second = l.second; segments = with_number k l.segments; snapshots = l.snapshots }
with_file (files.Snapshot j) l = record { files = l.files ++ files.Snapshot j ∷ []; first = l.first; second = l.second; segments = l.segments; snapshots = with_number j l.snapshots }

abbrev pub Below : List ℕ → Type 0
Below xs = AllBelow 10000000000000000 xs

abbrev pub FilesBelow : List File → Type 0
FilesBelow [] = Unit {0}
FilesBelow (x ∷ xs) = (number_of x < 10000000000000000) × FilesBelow xs

-- whether a file is listed
abbrev pub lists : FolderList → Name → Bool
lists l First = l.first
lists l Second = l.second
lists l (Segment k) = is_listed k l.segments
lists l (Snapshot j) = is_listed j l.snapshots

-- a file that is listed isn't listed again
abbrev pub added : File → FolderList → FolderList
added file l = cond (lists l (name_of file)) l (with_file file l)

-- how many files are listed
abbrev pub files_listed : FolderList → ℕ
files_listed l = cond l.first 1 0 + (cond l.second 1 0 + (length l.segments + length l.snapshots))

abbrev pub named : List File → List Name
named [] = []
named (x ∷ xs) = name_of x ∷ named xs

-- The list is that of a folder: what is there, and nothing else, is in it.
pub record IsListed (l : FolderList) (d : NodeDisk) : Type 0 where
  pub there : (n : Name) → numbered n < 10000000000000000 → (d.read n).there ≡ lists l n
  pub above : (n : Name) → (d.read n).there ≡ true → numbered n < 10000000000000000
  pub among : (n : Name) → (d.read n).there ≡ true → Among n (named l.files)
  pub segments : l.segments ≡ segment_numbers 10000000000000000 d.read
  pub snapshots : l.snapshots ≡ snapshot_numbers 10000000000000000 d.read
  pub count : length l.files ≡ files_listed l

-- whether a text is among others
abbrev pub is_named : List ℕ → List (List ℕ) → Bool
is_named t ts = list_any (λ u. bytes_eq u t) ts

abbrev pub AllNames : List (List ℕ) → Type 0
AllNames [] = Unit {0}
AllNames (t ∷ ts) = IsName t × AllNames ts

-- numbers that ascend, the first of them at least this one
abbrev pub From : ℕ → List ℕ → Type 0
From a [] = Unit {0}
From a (x ∷ xs) = (a ≤ x) × From (suc x) xs

-- the files of a node among names
pub record SortedOut (names : List (List ℕ)) (l : FolderList) : Type 0 where
  pub there : (n : Name) → numbered n < 10000000000000000 → lists l n ≡ is_named (file_name n) names
  pub among : (n : Name) → lists l n ≡ true → Among n (named l.files)
  pub segments : From 0 l.segments
  pub snapshots : From 0 l.snapshots
  pub digits : Below l.segments
  pub snapshot_digits : Below l.snapshots
  pub count : length l.files ≡ files_listed l
  pub are_names : AllNames names

-- one name more among those that were looked at
abbrev pub TakesName : List ℕ → FolderList → FolderList → Type 0
TakesName t old new = (ts : List (List ℕ)) → SortedOut ts old → IsName t → SortedOut (ts ++ t ∷ []) new
