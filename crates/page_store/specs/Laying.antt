-- Pages laid into one file in order, each with the length that its set states for the file.
use Rattle.std.specs.Prelude.{ℕ, ◌<◌, ◌≤◌, ◌==◌, ◌↔◌, Bool, if◌then◌else◌, List, [], ◌∷◌, length, slice_index_or}
use Rattle.dq_base.specs.declared.pages.NumberedPage.{NumberedPage}
use Rattle.dq_base.specs.declared.sizes.Lengths.{Lengths}
use Rattle.dq_base.specs.Images.{resized, page_start, is_page_of}
use Rattle.dq_base.specs.Applying.{replaced}

-- of two lengths the one of a file: 0 names the main file, any other number the side file
abbrev pub length_of : ℕ → Lengths → ℕ
length_of parity lengths = if parity == 0 then lengths.main else lengths.side

-- a file with one page put into it, if the page is one of this file's
abbrev pub put_one : Bool → NumberedPage → List ℕ → List ℕ
put_one mine p file = if mine then replaced file (page_start p.number) p.page else file

-- a file resized to a length, with one page put into it
abbrev pub laid_one : ℕ → NumberedPage → Lengths → List ℕ → List ℕ
laid_one parity p lengths file = put_one (is_page_of parity p.number) p (resized (length_of parity lengths) file)

-- a file after pages in order, each with its lengths
abbrev pub laid : ℕ → List NumberedPage → List Lengths → List ℕ → List ℕ
laid parity [] lengths file = file
laid parity (p ∷ ps) [] file = file
laid parity (p ∷ ps) (l ∷ ls) file = laid parity ps ls (laid_one parity p l file)

-- the lengths of empty files
abbrev pub no_lengths : Lengths
no_lengths = record { main = 0; side = 0 }

-- the length of a file at a place of a list
abbrev pub length_at : ℕ → List Lengths → ℕ → ℕ
length_at parity lengths i = length_of parity (slice_index_or lengths i no_lengths)

-- there is room for each length of a list
abbrev pub Room : ℕ → List Lengths → ℕ → Type 0
Room parity lengths capacity = (i : ℕ) → i < length lengths → length_at parity lengths i ≤ capacity

-- what is at most each length of a stretch, and nothing else, is at most this one: it is the least of them
abbrev pub IsLeast : ℕ → List Lengths → ℕ → ℕ → ℕ → Type 0
IsLeast parity lengths first last least = (k : ℕ) → (k ≤ least) ↔ ((i : ℕ) → first ≤ i → i ≤ last → k ≤ length_at parity lengths i)
