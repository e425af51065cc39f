-- An earlier image of a database, lent by a state machine.
use Rattle.dq_base.specs.declared.images.Image.{Image}
use Rattle.database_state.specs.Files.{empty_image}
use Rattle.database_state.specs.Pins.{IsPinned, pinned_image}
use Rattle.session_outcomes.specs.declared.earlier.Earlier.{Earlier}
use Rattle.session_outcomes.specs.declared.earlier.Earlier.TheVariants as earliers

abbrev pub image_of : Earlier → Image
image_of (earliers.Pinned machine pin) = pinned_image machine.now pin.now
image_of earliers.Nothing = empty_image

-- its read mark, if it has one, is live
abbrev pub IsShown : Earlier → Type 0
IsShown (earliers.Pinned machine pin) = IsPinned machine.now pin.now
IsShown earliers.Nothing = Unit {0}
