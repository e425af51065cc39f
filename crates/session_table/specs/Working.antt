-- The working images of open transactions, by their numbers.
use Rattle.std.specs.Prelude.{◌≡◌, ℕ, List, [], ◌∷◌, ◌++◌, Option, Some, None}
use Rattle.std.specs.List.{AllByRecursion, Contains}
use Rattle.dq_base.specs.declared.images.Image.{Image}
use Rattle.dq_base.specs.declared.image_number.ImageNumber.{ImageNumber}
use Rattle.dq_base.specs.declared.image_number.ImageNumber.TheVariants.{Working}
use Rattle.dq_base.specs.declared.pages.NumberedPage.{NumberedPage}
use Rattle.dq_base.specs.Applying.{applied}
use Rattle.page_store.specs.Store.{newest_image}
use Rattle.sql_engine.specs.Known.{Known}
use Rattle.database_state.specs.declared.database.Database.{Database}
use Rattle.database_state.specs.ImageNumbers.{number_of}
use Rattle.session_table.specs.declared.session.Session.{Session}
use Rattle.session_table.specs.declared.session.Transaction.{Transaction}
use Rattle.session_table.specs.declared.change.Change.{Change}
use Rattle.session_table.specs.declared.change.Change.TheVariants as changes

-- an image by its number, if it has one
abbrev pub with_number : Option ImageNumber → Image → List Known
with_number None image = []
with_number (Some number) image = record { number = number; image = image } ∷ []

-- the working image of a transaction, if it has a number
abbrev pub work_of : Option Transaction → List Known
work_of None = []
work_of (Some x) = with_number x.number x.working

-- those of the transactions
abbrev pub works_of : List Session → List Known
works_of [] = []
works_of (s ∷ ss) = work_of s.transaction ++ works_of ss

-- each of these images is, by its number, one of those
abbrev pub AreAmong : List Known → List Known → Type 0
AreAmong those these = AllByRecursion (Contains those) these

-- the newest image of a database of the state machine, by its number
pub record IsNewest (databases : List Database) (work : Known) : Type 0 where
  pub database : Database
  pub among : Contains databases database
  pub number : work.number ≡ number_of database
  pub image : work.image ≡ newest_image database.store

-- the image that pages lead to from a transaction's, by the number that was drawn for it
abbrev pub work_with : List NumberedPage → ℕ → Option Transaction → List Known
work_with pages number None = []
work_with pages number (Some x) = record { number = Working number; image = applied x.working pages } ∷ []

-- the working image that a change of a session makes
abbrev pub work_made : Change → Option Transaction → List Known
work_made changes.Stays tx = []
work_made (changes.Opens name barriers) tx = []
work_made (changes.Creates flight barriers) tx = []
work_made (changes.Lends query) tx = []
work_made (changes.Prepares prepared) tx = []
work_made (changes.Drops id) tx = []
work_made changes.Forgets tx = []
work_made (changes.Works pages number) tx = work_with pages.pages number tx
work_made (changes.Flies flight) tx = []
