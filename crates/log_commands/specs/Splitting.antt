-- The commands that bring a page set to every node: its pages in pieces of 64, of which the last commits them all.
use Rattle.std.specs.Prelude.{ℕ, zero, suc, ◌-◌, ◌/◌, Bool, true, false, ◌&&◌, if◌then◌else◌, List, [], ◌∷◌, length, take, drop, Option, Some, None}
use Rattle.dq_base.specs.declared.pages.NumberedPage.{NumberedPage}
use Rattle.dq_base.specs.declared.pages.PageSet.{PageSet}
use Rattle.dq_base.specs.Applying.{is_sizes, last_page}
use Rattle.log_commands.specs.declared.command.Command.{Command}
use Rattle.log_commands.specs.declared.command.Command.TheVariants.{Frames}
use Rattle.log_commands.specs.Numbers.{numbers_ascend, stated_count, pages_before_last}

-- the page count of the image after pages, as their last one states it; 0 where it is no sizes page
abbrev pub count_stated : Option NumberedPage → ℕ
count_stated None = 0
count_stated (Some last) = if is_sizes last then stated_count last.page else 0

-- Frames of one transaction: this many commands of 64 pages each after which it continues, and one with the pages that are
-- left, which commits.
unfoldable pub split_from : ℕ → List ℕ → ℕ → List NumberedPage → List Command
split_from zero name tx pages = Frames name tx (count_stated (last_page pages)) true pages ∷ []
split_from (suc more) name tx pages = Frames name tx 0 false (take 64 pages) ∷ split_from more name tx (drop 64 pages)

-- how many commands come before the last
abbrev pub before_last : List NumberedPage → ℕ
before_last pages = (length pages - 1) / 64

-- the commands of a set for the database of a name
abbrev pub split : List ℕ → PageSet → List Command
split name set = split_from (before_last set.pages) name set.tx set.pages

-- a list ends with a sizes page
abbrev pub ends_in_sizes : Option NumberedPage → Bool
ends_in_sizes None = false
ends_in_sizes (Some last) = is_sizes last

-- whether pages may be split: the last is a sizes page, and the numbers before it ascend from 2 on, none above the highest
abbrev pub can_split : List NumberedPage → Bool
can_split pages = ends_in_sizes (last_page pages) && numbers_ascend 2 (pages_before_last pages)
