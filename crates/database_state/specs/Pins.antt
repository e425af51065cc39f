-- Pins of a state machine's databases.
use Rattle.std.specs.Prelude.{◌≡◌, ℕ, ◌==◌, List, ◌<◌, Bool, find, Option, Some, None}
use Rattle.page_store.specs.Marks.{mark_at, live_count}
use Rattle.page_store.specs.declared.marks.MarkFault.{MarkFault}
use Rattle.page_store.specs.declared.marks.MarkFault.TheVariants as mark_faults
use Rattle.database_state.specs.declared.pin.PinFault.{PinFault}
use Rattle.database_state.specs.declared.pin.PinFault.TheVariants.{Unknown, Full}
use Rattle.std.specs.Option.{option_map}
use Rattle.dq_base.specs.declared.images.Image.{Image}
use Rattle.page_store.specs.Store.{IsLive, image_under, newest_image, pinned, released}
use Rattle.database_state.specs.declared.database.Database.{Database}
use Rattle.database_state.specs.ByName.{change_first}
use Rattle.database_state.specs.Files.{empty_image}
use Rattle.database_state.specs.Databases.{has_name, named, with_store}

-- a pin: the place of its database in the order of opening, and the mark
pub record Pinning : Type 0 where
  pub place : ℕ
  pub mark : ℕ

abbrev pub has_place : ℕ → Database → Bool
has_place place database = database.place == place

-- the database that was opened at a place
abbrev pub at_place : ℕ → List Database → Option Database
at_place place databases = find (has_place place) databases

abbrev pub is_live_in : Option Database → ℕ → Type 0
is_live_in None mark = ⊥
is_live_in (Some database) mark = IsLive database.store mark

-- a pin is live in a state machine: its mark is, in the database of its place
abbrev pub IsPinned : List Database → Pinning → Type 0
IsPinned databases pin = is_live_in (at_place pin.place databases) pin.mark

abbrev pub shown_by : Option Database → ℕ → Image
shown_by None mark = empty_image
shown_by (Some database) mark = image_under database.store mark

-- the image that a live pin shows
abbrev pub pinned_image : List Database → Pinning → Image
pinned_image databases pin = shown_by (at_place pin.place databases) pin.mark

-- the fault of a pin where the mark has this one
abbrev pub of_mark_fault : MarkFault → PinFault
of_mark_fault (mark_faults.Full marks) = Full marks

-- a state machine where a mark is pinned in the database of a name: it sees all sets of the database
abbrev pub with_pin : List ℕ → ℕ → List Database → List Database
with_pin name mark databases = change_first (has_name name) (λ database. with_store (pinned database.store mark) database) databases

-- a state machine where a pin is released
abbrev pub without_pin : Pinning → List Database → List Database
without_pin pin databases = change_first (has_place pin.place) (λ database. with_store (released database.store pin.mark) database) databases

-- The database of a name was pinned, at a mark that was free.
pub record IsPin (name : List ℕ) (old new : List Database) (pin : Pinning) : Type 0 where
  pub database : Database
  pub is : named name old ≡ Some database
  pub place : pin.place ≡ database.place
  pub was_free : mark_at database.store.marks pin.mark ≡ None
  pub room : live_count database.store.marks < 64
  pub live : IsLive (pinned database.store pin.mark) pin.mark
  pub shows : image_under (pinned database.store pin.mark) pin.mark ≡ newest_image database.store
  pub now : new ≡ with_pin name pin.mark old

-- Why a database wasn't pinned: there is none, or 64 of its marks are live.
abbrev pub IsRefused : Option Database → PinFault → Type 0
IsRefused None fault = fault ≡ Unknown
IsRefused (Some database) fault = (fault ≡ Full 64) × (live_count database.store.marks ≡ 64)

-- If the pin was live it still is, and it shows the image that it showed.
pub record StillPinned (old new : List Database) (pin : Pinning) : Type 0 where
  pub live : IsPinned old pin → IsPinned new pin
  pub same_image : IsPinned old pin → pinned_image new pin ≡ pinned_image old pin

-- The pin is live, and it shows the image that was the newest of the database of this name.
pub record ShowsNewest (name : List ℕ) (old new : List Database) (pin : Pinning) : Type 0 where
  pub live : IsPinned new pin
  pub shows : Some (pinned_image new pin) ≡ option_map (λ (database : Database). newest_image database.store) (named name old)
