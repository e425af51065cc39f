-- The numbers of the newest images of a state machine's databases.
use Rattle.std.specs.Prelude.{◌≡◌, ◌⊎◌, ◌≤◌, List, length, map}
use Rattle.std.specs.List.{AllByRecursion, Contains}
use Rattle.dq_base.specs.declared.images.Image.{Image}
use Rattle.dq_base.specs.declared.image_number.ImageNumber.{ImageNumber}
use Rattle.dq_base.specs.declared.image_number.ImageNumber.TheVariants.{Newest}
use Rattle.page_store.specs.Store.{newest, newest_image}
use Rattle.database_state.specs.declared.database.Database.{Database}

-- the number of a database's newest image: the database's place in the order of opening, and how many commits it had
abbrev pub number_of : Database → ImageNumber
number_of database = Newest database.place (newest database.store)

-- an image with its number
pub record Numbered : Type 0 where
  pub number : ImageNumber
  pub image : Image

-- the newest image of a database
abbrev pub numbered : Database → Numbered
numbered database = record { number = number_of database; image = newest_image database.store }

-- A database is another one later on: it was opened at the same place, it had as many commits or more, and if it had as
-- many, its newest image is the same.
pub record Follows (old new : Database) : Type 0 where
  pub place : new.place ≡ old.place
  pub commits : newest old.store ≤ newest new.store
  pub image : newest new.store ≡ newest old.store → newest_image new.store ≡ newest_image old.store

-- a database is one of those before, later on, or it is new, and its place is after theirs
abbrev pub ComesFrom : List Database → Database → Type 0
ComesFrom before new = ((old : Database) × Contains before old × Follows old new) ⊎ (length before ≤ new.place)

-- No number represents another image than before: each database is one of those before, later on, or a new one; and there
-- are as many databases as before, or more.
pub record NumbersGoOn (before after : List Database) : Type 0 where
  pub count : length before ≤ length after
  pub each : AllByRecursion (ComesFrom before) after

-- the newest images are those of before, each with its number
abbrev pub NumbersStay : List Database → List Database → Type 0
NumbersStay before after = map numbered after ≡ map numbered before
