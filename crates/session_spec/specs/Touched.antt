-- The pages in which the two images of a transaction differ, by their numbers.
use Rattle.std.specs.Prelude.{Option, Some, None}
pub use Rattle.image_diff.specs.Touched.{numbers_of, NoneIs, DiffersOnlyAt, ListsAll, changed_at, same_lengths, change_at, Ascends, put_in_order}
use Rattle.session_spec.specs.Sessions.{Transaction}

-- if a transaction is open, it has the numbers of all pages in which its two images differ
abbrev pub IsListed : Option Transaction → Type 0
IsListed None = Unit {0}
IsListed (Some x) = ListsAll x.touched x.pinned x.working
