-- Read marks in a state machine: which are live, and what it is to release some of them.
use Rattle.std.specs.Prelude.{◌≡◌, ◌≢◌, ◌<◌, List, [], ◌∷◌, length, ◌⊎◌}
use Rattle.std.specs.List.{AllByRecursion, Contains}
use Rattle.database_state.specs.declared.database.Database.{Database}
use Rattle.database_state.specs.ImageNumbers.{NumbersStay}
use Rattle.database_state.specs.Pins.{Pinning, IsPinned, StillPinned}
use Rattle.session_spec.specs.Machine.{machine_of}

-- the mark is not one of these
abbrev pub IsNoneOf : List Pinning → Pinning → Type 0
IsNoneOf pins pin = AllByRecursion (λ (other : Pinning). pin ≢ other) pins

-- no two marks are one
abbrev pub AreDifferent : List Pinning → Type 0
AreDifferent [] = Unit {0}
AreDifferent (pin ∷ pins) = IsNoneOf pins pin × AreDifferent pins

-- The live marks of a state machine are these: each is live, no two are one, and no other is live.
pub record AreMarks (pins : List Pinning) (databases : List Database) : Type 0 where
  pub live : AllByRecursion (IsPinned databases) pins
  pub apart : AreDifferent pins
  pub only : (pin : Pinning) → IsPinned databases pin → Contains pins pin

-- These marks were released: no database and no number of a newest image changed, every other mark shows what it showed, and none
-- of these is live.
pub record Released (gone : List Pinning) (old new : List Database) : Type 0 where
  pub bases : machine_of new ≡ machine_of old
  pub numbers : NumbersStay old new
  pub still : (pin : Pinning) → IsNoneOf gone pin → StillPinned old new pin
  pub spent : (pin : Pinning) → IsPinned new pin → IsPinned old pin × IsNoneOf gone pin

-- These marks were pinned: no database and no number of a newest image changed, every other mark shows what it showed, and no more
-- are live but these, which were not.
pub record Gained (gained : List Pinning) (old new : List Database) : Type 0 where
  pub bases : machine_of new ≡ machine_of old
  pub numbers : NumbersStay old new
  pub still : (pin : Pinning) → StillPinned old new pin
  pub fresh : AllByRecursion (λ (pin : Pinning). IsPinned old pin → ⊥) gained
  pub live : AllByRecursion (IsPinned new) gained
  pub apart : AreDifferent gained
  pub only : (pin : Pinning) → IsPinned new pin → IsPinned old pin ⊎ Contains gained pin

-- fewer marks are live than a database can have
abbrev pub HasRoom : List Database → Type 0
HasRoom databases = (pins : List Pinning) × AreMarks pins databases × (length pins < 64)
