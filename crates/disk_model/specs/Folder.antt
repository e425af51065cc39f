-- A table of files over memory: what is read of each, and what is durable.
use Rattle.std.specs.Prelude.{◌≡◌, ◌<◌, ℕ, Bool, true, false, ◌||◌, cond, List, [], ◌∷◌, length, set, get_or}
use Rattle.std.specs.Str.{bytes_eq}
use Rattle.disk_model.specs.Disk.{Found, missing, Files}
use Rattle.disk_model.specs.SyncAll.{Among}
use Rattle.disk_model.specs.Trait.{Text, Once}
use Rattle.disk_model.specs.Memory.{at_name, shown, named, done_in_turn, effects_on}
use Rattle.disk_model.specs.MemFiles.{MemFile}
use Rattle.disk_model.specs.declared.open_calls.UnsyncedCall.{UnsyncedCall}

-- the files as they are read, and as they are on stable storage
pub record Tables : Type 0 where
  pub read : Files Text
  pub base : Files Text

-- the file of a name: the first that has it
abbrev pub file_of : List MemFile → Text → MemFile
file_of [] n = record { name = n; read = missing; base = missing }
file_of (f ∷ fs) n = cond (bytes_eq f.name n) f (file_of fs n)

abbrev pub tables_of : List MemFile → Tables
tables_of files = record { read = λ n. (file_of files n).read; base = λ n. (file_of files n).base }

abbrev pub read_changed : Text → (Found → Found) → Tables → Tables
read_changed n change t = record { read = at_name n change t.read; base = t.base }

abbrev pub base_changed : Text → (Found → Found) → Tables → Tables
base_changed n change t = record { read = t.read; base = at_name n change t.base }

-- a sync of a file, and of the names
abbrev pub file_put_down : Text → Tables → Tables
file_put_down n t = base_changed n (λ f. record { there = f.there; bytes = (t.read n).bytes }) t

abbrev pub names_put_down : Tables → Tables
names_put_down t = record { read = t.read; base = λ n. named (t.read n) (t.base n) }

-- what is durable is what is read
abbrev pub settled : Tables → Tables
settled t = record { read = λ n. shown (t.base n); base = λ n. shown (t.base n) }

-- one file after a sync of the names, and after a crash that kept what is durable
abbrev pub named_file : MemFile → MemFile
named_file f = record { name = f.name; read = f.read; base = named f.read f.base }

abbrev pub settled_file : MemFile → MemFile
settled_file f = record { name = f.name; read = shown f.base; base = shown f.base }

abbrev pub all_settled : List MemFile → List MemFile
all_settled [] = []
all_settled (f ∷ fs) = settled_file f ∷ all_settled fs

-- calls done again, in turn, to what is durable
abbrev pub replayed : List UnsyncedCall → Tables → Tables
replayed us t = record { read = t.read; base = λ n. done_in_turn (effects_on n us) (t.base n) }

-- the file of a name is at a place of the list
pub record StandsAt (n : Text) (files : List MemFile) (place : ℕ) : Type 0 where
  pub within : place < length files
  pub name : (d : MemFile) → (get_or files place d).name ≡ n
  pub here : (d : MemFile) → file_of files n ≡ get_or files place d
  pub changed : (f : MemFile) → f.name ≡ n → (m : Text) → file_of (set files place f) m ≡ cond (bytes_eq n m) f (file_of files m)

-- whether a list has a name
abbrev pub has_name : Text → List Text → Bool
has_name n [] = false
has_name n (m ∷ ms) = bytes_eq m n || has_name n ms

-- the names of the files of a list that are there, none of them twice
pub record ListsFiles (files : List MemFile) (names : List Text) : Type 0 where
  pub there : (n : Text) → Among n names → (file_of files n).read.there ≡ true
  pub all : (n : Text) → (file_of files n).read.there ≡ true → Among n names
  pub once : Once names
