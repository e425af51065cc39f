-- What the statements of cells do to an image. Each page of the main file is a cell, which holds a number in its first eight
-- bytes; page 1 of the side file counts the changes.
use Rattle.std.specs.Prelude.{◌≡◌, ◌==◌, ℕ, ◌+◌, ◌-◌, ◌*◌, ◌%◌, ◌^◌, max, nat_lt, nat_le, if◌then◌else◌, List, [], ◌∷◌, ◌++◌, length, take, codes, Option, Some, None, Result, Ok, Err}
use Rattle.std.specs.Int.{w64, cast_signed}
use Rattle.byteorder.specs.Endian.{little_bytes, little_number}
use Rattle.dq_base.specs.declared.images.Image.{Image}
use Rattle.dq_base.specs.Images.{zeros, resized, page_at, pages_in}
use Rattle.dq_base.specs.Applying.{replaced}
use Rattle.wire_words.specs.declared.value.Value.{Value}
use Rattle.wire_words.specs.declared.value.Value.TheVariants.{Integer}
use Rattle.sql_engine.specs.declared.cell_statement.CellStatement.{CellStatement}
use Rattle.sql_engine.specs.declared.cell_statement.CellStatement.TheVariants.{Set, Get, Wipe}
use Rattle.sql_engine.specs.Replies.{plain_rows, Reply, Statement}
use Rattle.sql_engine.specs.Meanings.{Meaning, Refusal, constraint, sql}
use Rattle.sql_engine.specs.CellTexts.{statement_of}

-- the page of a number: it in eight bytes, little-endian, and zeros
unfoldable pub cell_page : ℕ → List ℕ
cell_page value = little_bytes 8 value ++ zeros 4088

-- a file in which this page is as page k, from k = 1 on; a file that ends before is grown with zeros to the page's end
unfoldable pub with_page : List ℕ → ℕ → List ℕ → List ℕ
with_page file k page = replaced (resized (max (length file) (4096 * k)) file) (4096 * (k - 1)) page

-- the number that a page holds, or 0 where there is no page
abbrev pub number_in : Option (List ℕ) → ℕ
number_in None = 0
number_in (Some page) = little_number 8 page

-- how many changes page 1 of the side file counts
abbrev pub changes_in : Image → ℕ
changes_in image = number_in (page_at image 3)

-- The main file becomes this one, and the count of changes rises by one, or from its last value to 0.
abbrev pub with_main : Image → List ℕ → Image
with_main image main = record { main = main; side = with_page image.side 1 (cell_page ((changes_in image + 1) % 2 ^ 64)) }

-- the cell of a page holds the value
unfoldable pub with_cell : Image → ℕ → ℕ → Image
with_cell image page value = with_main image (with_page image.main page (cell_page value))

-- the main file is truncated to this many pages
unfoldable pub wiped : Image → ℕ → Image
wiped image pages = if nat_lt (4096 * pages) (length image.main) then with_main image (take (4096 * pages) image.main) else image

-- what a statement does: the image after it, and its reply
pub record Outcome : Type 0 where
  pub after : Image
  pub reply : Reply

-- a reply without columns, of this many pages that changed
abbrev pub told : ℕ → Reply
told affected = record { affected = affected; columns = []; rows = [] }

-- the rows that a page gives: one with its number, as a signed one, if there is the page
abbrev pub cell_rows : Option (List ℕ) → List (List Value)
cell_rows None = []
cell_rows (Some page) = (Integer (cast_signed w64 (little_number 8 page)) ∷ []) ∷ []

abbrev pub read : Image → ℕ → Outcome
read image page = record { after = image; reply = record { affected = 0; columns = codes "v" ∷ []; rows = plain_rows (cell_rows (page_at image (2 * page))) } }

-- the greatest value that a cell may be set to
abbrev pub greatest_value : ℕ
greatest_value = 9223372036854775807

-- what a statement does, or why it is refused
abbrev pub cell_outcome : Image → Option CellStatement → Result Outcome Refusal
cell_outcome image (Some (Set page value)) = if nat_le value greatest_value then Ok (record { after = with_cell image page value; reply = told 1 }) else Err constraint
cell_outcome image (Some (Get page)) = Ok (read image page)
cell_outcome image (Some (Wipe pages)) = Ok (record { after = wiped image pages; reply = told (pages_in image.main - pages) })
cell_outcome image None = Err sql

-- statements have no parameters
unfoldable pub outcome_of : Image → Statement → Result Outcome Refusal
outcome_of image s = if length s.params == 0 then cell_outcome image (statement_of s.text) else Err sql

-- What statements of cells mean: each either does one thing or is refused in one way.
abbrev pub cells : Meaning
cells = record {
  runs = λ image s after reply. outcome_of image s ≡ Ok (record { after = after; reply = reply });
  refuses = λ image s refusal. outcome_of image s ≡ Err refusal;
}
