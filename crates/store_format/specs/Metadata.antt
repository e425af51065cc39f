-- The metadata of a node: four words, namely format, version, term and vote, and the sum of these 32 bytes.
use Rattle.std.specs.Prelude.{ℕ, suc, ◌%◌, Bool, true, false, ◌&&◌, ◌==◌, cond, List, ◌++◌, length, take, drop, Option, Some, None}
use Rattle.std.specs.Str.{bytes_eq}
use Rattle.store_laws.specs.Store.{Meta, no_meta}
use Rattle.store_format.specs.Sums.{sum_bytes}
use Rattle.store_format.specs.Words.{word_from, is_known, front_bytes}
use Rattle.store_format.specs.declared.metadata.Metadata.{Metadata}

-- odd versions go to the first file
abbrev pub fits_side : Bool → ℕ → Bool
fits_side true version = version % 2 == 1
fits_side false version = version % 2 == 0

-- a file is valid with 40 bytes, a known format, a matching sum, and a version of that file's parity
unfoldable pub is_block : Bool → List ℕ → Bool
is_block first x =
    (length x == 40) && is_known (word_from 0 x) && fits_side first (word_from 8 x)
    && bytes_eq (drop 32 x) (sum_bytes (word_from 0 x) (take 32 x))

-- what the first or the second file says
unfoldable pub meta_in : Bool → List ℕ → Meta
meta_in first x = cond (is_block first x) (record { stamp = suc (word_from 8 x); term = word_from 16 x; vote = word_from 24 x }) no_meta

-- the same by the code's value
abbrev pub meta_of_found : Option Metadata → Meta
meta_of_found None = no_meta
meta_of_found (Some m) = record { stamp = suc m.version; term = m.term; vote = m.vote }

-- the block as it is written, in format 3
abbrev pub block_front : Metadata → List ℕ
block_front m = front_bytes m.version m.term m.vote

abbrev pub block_bytes : Metadata → List ℕ
block_bytes m = block_front m ++ sum_bytes 3 (block_front m)
