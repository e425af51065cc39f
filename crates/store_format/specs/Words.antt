-- Words at fixed places of a file, and the formats that files have.
use Rattle.std.specs.Prelude.{ℕ, Bool, ◌&&◌, ◌||◌, ◌==◌, cond, nat_le, List, ◌++◌, length, drop}
use Rattle.byteorder.specs.Endian.{little_number}
use Rattle.wire_words.specs.Items.{word}

-- the word from a place on; 0 represents each byte past the end
abbrev pub word_from : ℕ → List ℕ → ℕ
word_from k bytes = little_number 8 (drop k bytes)

-- the formats
abbrev pub is_known : ℕ → Bool
is_known format = (format == 1) || (format == 2) || (format == 3)

-- the format that a file's first word says; 0 where it says none
unfoldable pub format_in : List ℕ → ℕ
format_in bytes = cond (nat_le 8 (length bytes) && is_known (word_from 0 bytes)) (word_from 0 bytes) 0

-- the first four words of a file in format 3
unfoldable pub front_bytes : ℕ → ℕ → ℕ → List ℕ
front_bytes first second third = word 3 ++ (word first ++ (word second ++ word third))
