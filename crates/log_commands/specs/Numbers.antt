-- Which numbers a command may have.
use Rattle.std.specs.Prelude.{ℕ, ◌≤◌, ◌+◌, ◌-◌, Bool, true, false, not, ◌&&◌, ◌==◌, nat_le, if◌then◌else◌, List, [], ◌∷◌, length, take, Option, Some, None}
use Rattle.std.specs.List.{AllByRecursion}
use Rattle.dq_base.specs.declared.pages.NumberedPage.{NumberedPage}
use Rattle.dq_base.specs.Images.{pages_of}
use Rattle.dq_base.specs.Applying.{is_sizes, stated_main, stated_side, last_page}
use Rattle.log_commands.specs.declared.command.Command.{Command}
use Rattle.log_commands.specs.declared.command.Command.TheVariants.{OpenDb, Frames, Undo, Checkpoint}

-- the most pages of one command
abbrev pub most_pages : ℕ
most_pages = 64

-- the highest number of a page
abbrev pub highest_number : ℕ
highest_number = 4294967295

-- the page count of an image of the lengths that a sizes page states, the sizes page included
abbrev pub stated_count : List ℕ → ℕ
stated_count page = 1 + pages_of (stated_main page) + pages_of (stated_side page)

-- the numbers ascend from one that is at least this, none of them is 1, and none is above the highest
unfoldable pub numbers_ascend : ℕ → List NumberedPage → Bool
numbers_ascend least [] = true
numbers_ascend least (p ∷ ps) = nat_le least p.number && not (p.number == 1) && nat_le p.number highest_number && numbers_ascend (p.number + 1) ps

-- the pages before the last
abbrev pub pages_before_last : List NumberedPage → List NumberedPage
pages_before_last pages = take (length pages - 1) pages

-- the last page is a sizes page, and this is the page count that it states
unfoldable pub ends_with : ℕ → Option NumberedPage → Bool
ends_with truncate None = false
ends_with truncate (Some last) = is_sizes last && (truncate == stated_count last.page)

-- Whether no number of a Frames command is out of its range: it has 1 to 64 pages. With commit the last of them is a
-- sizes page that states the page count; the others ascend. Without commit all ascend and the page count is 0.
unfoldable pub frames_fit : ℕ → Bool → List NumberedPage → Bool
frames_fit truncate commit pages =
    nat_le 1 (length pages) && nat_le (length pages) most_pages
    && (if commit then ends_with truncate (last_page pages) && numbers_ascend 0 (pages_before_last pages)
    else (truncate == 0) && numbers_ascend 0 pages)

-- whether no number of a command is out of its range
abbrev pub numbers_fit : Command → Bool
numbers_fit (OpenDb name) = true
numbers_fit (Frames name tx truncate commit pages) = frames_fit truncate commit pages
numbers_fit (Undo tx) = true
numbers_fit (Checkpoint name) = true

-- no number of these pages is above the highest
abbrev pub AreLow : List NumberedPage → Type 0
AreLow pages = AllByRecursion (λ p. p.number ≤ highest_number) pages

-- no page of a command has a number above the highest
abbrev pub HasLowNumbers : Command → Type 0
HasLowNumbers (OpenDb name) = Unit {0}
HasLowNumbers (Frames name tx truncate commit pages) = AreLow pages
HasLowNumbers (Undo tx) = Unit {0}
HasLowNumbers (Checkpoint name) = Unit {0}
