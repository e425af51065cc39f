-- The names of a node's files.
use Rattle.std.specs.Prelude.{ℕ, ◌+◌, ◌/◌, ◌%◌, List, [], ◌∷◌, ◌++◌, map, replicate, codes}
use Rattle.store_laws.specs.Names.{Name, First, Second, Segment, Snapshot}
use Rattle.segment_store.specs.declared.names.File.{File}
use Rattle.segment_store.specs.declared.names.File.TheVariants as files

-- the powers of ten from the sixteenth digit on
abbrev pub powers : List ℕ
powers = 1000000000000000 ∷ 100000000000000 ∷ 10000000000000 ∷ 1000000000000 ∷ 100000000000 ∷ 10000000000 ∷ 1000000000 ∷ 100000000 ∷ 10000000 ∷ 1000000 ∷ 100000 ∷ 10000 ∷ 1000 ∷ 100 ∷ 10 ∷ 1 ∷ []

-- the digit at a power of ten
abbrev pub digit : ℕ → ℕ → ℕ
digit n power = 48 + n / power % 10

-- the last sixteen digits of a number
unfoldable pub sixteen : ℕ → List ℕ
sixteen n = map (digit n) powers

-- A number in sixteen digits. What a greater number, which no file has, is beyond them follows them as this many
-- NULs, which no name has, so that no two numbers are alike.
unfoldable pub number_text : ℕ → List ℕ
number_text n = sixteen n ++ replicate (n / 10000000000000000) 0

abbrev pub file_name : Name → List ℕ
file_name First = codes "metadata1"
file_name Second = codes "metadata2"
file_name (Segment k) = codes "segment-" ++ number_text k
file_name (Snapshot j) = codes "snapshot-" ++ number_text j

-- the same by the code's value
abbrev pub name_of : File → Name
name_of files.First = First
name_of files.Second = Second
name_of (files.Segment k) = Segment k
name_of (files.Snapshot j) = Snapshot j

-- the number of a file, 0 where it has none
abbrev pub number_of : File → ℕ
number_of files.First = 0
number_of files.Second = 0
number_of (files.Segment k) = k
number_of (files.Snapshot j) = j
