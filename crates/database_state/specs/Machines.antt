-- What is true of the databases of every state machine.
use Rattle.std.specs.Prelude.{◌≢◌, ℕ, ◌<◌, List, [], ◌∷◌, length, map, Option, Some, None}
use Rattle.std.specs.List.{AllByRecursion}
use Rattle.dq_base.specs.declared.pages.PageSet.{PageSet}
use Rattle.log_commands.specs.Numbers.{AreLow}
use Rattle.page_store.specs.Store.{Store, newest_image, MarksWithin}
use Rattle.database_state.specs.declared.database.Database.{Database}
use Rattle.database_state.specs.ByName.{Ascend}
use Rattle.database_state.specs.Logs.{IsShort}

-- the names of databases, as they stand
abbrev pub names_of : List Database → List (List ℕ)
names_of databases = map (λ (database : Database). database.name) databases

-- no two databases were opened at one place
abbrev pub AreApart : List Database → Type 0
AreApart [] = Unit {0}
AreApart (d ∷ ds) = AllByRecursion (λ e. d.place ≢ e.place) ds × AreApart ds

-- each place in the order of opening is below this number
abbrev pub AreBelow : ℕ → List Database → Type 0
AreBelow count databases = AllByRecursion (λ d. d.place < count) databases

-- no mark of a database sees more sets than there are
abbrev pub AllWithin : List Database → Type 0
AllWithin databases = AllByRecursion (λ d. MarksWithin d.store) databases

-- no page that is pending has a number above the highest
abbrev pub IsPendingLow : Option PageSet → Type 0
IsPendingLow None = Unit {0}
IsPendingLow (Some pending) = AreLow pending.pages

abbrev pub AllPendingLow : List Database → Type 0
AllPendingLow databases = AllByRecursion (λ d. IsPendingLow d.pending) databases

-- Databases stand by their names, each once; their places in the order of opening are different numbers below their count;
-- no mark sees too much, and no pending page has too high a number.
pub record IsMachine (databases : List Database) : Type 0 where
  pub in_order : Ascend (names_of databases)
  pub below : AreBelow (length databases) databases
  pub apart : AreApart databases
  pub marks : AllWithin databases
  pub numbers : AllPendingLow databases

-- no file is longer than a sizes page may state
abbrev pub AllShort : List Database → Type 0
AllShort databases = AllByRecursion (λ d. IsShort (newest_image d.store)) databases

-- a change that leaves every file short where all were
abbrev pub StaysShort : Store → Store → Type 0
StaysShort old new = IsShort (newest_image old) → IsShort (newest_image new)
