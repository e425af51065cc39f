-- The numbers of connections: what an event says of them, and the life of each.
use Rattle.std.specs.Prelude.{◌≡◌, ◌≢◌, ◌+◌, ◌<◌, ℕ, List, [], ◌∷◌, Option, Some, None, length, get_or, set}
use Rattle.serve_traits.specs.declared.event.Event.{Event}
use Rattle.serve_traits.specs.declared.event.Event.TheVariants.{Timeout, Beat, Yield, Connect, Bytes, Hangup, Peer, ReadDone}

-- the number that is given next, and the number of the connection at each socket, 0 for none
pub record Numbers : Type 0 where
  pub next : ℕ
  pub places : List ℕ

-- no number was given
pub record AreFresh (numbers : Numbers) : Type 0 where
  pub next : numbers.next ≡ 1
  pub none : (socket : ℕ) → get_or numbers.places socket 0 ≡ 0

-- a socket without a connection gets the next number
pub record GivesNumber (old new : Numbers) (socket number : ℕ) : Type 0 where
  pub taken : number ≡ old.next
  pub next : new.next ≡ number + 1
  pub was_free : get_or old.places socket 0 ≡ 0
  pub within : socket < length old.places
  pub places : new.places ≡ set old.places socket number

abbrev pub GivesNumberIfAny : Numbers → Numbers → ℕ → Option ℕ → Type 0
GivesNumberIfAny old new socket None = new ≡ old
GivesNumberIfAny old new socket (Some number) = GivesNumber old new socket number

-- the number of a socket is taken away
pub record FreesSocket (old new : Numbers) (socket : ℕ) : Type 0 where
  pub next : new.next ≡ old.next
  pub freed : get_or new.places socket 0 ≡ 0
  pub others : (other : ℕ) → other ≢ socket → get_or new.places other 0 ≡ get_or old.places other 0

-- Connect comes with a new number
pub record MeetsClient (old new : Numbers) (number : ℕ) : Type 0 where
  pub socket : ℕ
  pub gives : GivesNumber old new socket number

-- bytes come of a number that has a socket
pub record HearsClient (old new : Numbers) (number : ℕ) : Type 0 where
  pub same : new ≡ old
  pub socket : ℕ
  pub there : get_or old.places socket 0 ≡ number
  pub given : number ≢ 0

-- with Hangup the number has no socket any more
pub record LeavesSocket (old new : Numbers) (number : ℕ) : Type 0 where
  pub socket : ℕ
  pub there : get_or old.places socket 0 ≡ number
  pub given : number ≢ 0
  pub frees : FreesSocket old new socket

-- what an event of a socket does to the numbers
abbrev pub ChangesNumbers : {T : Type 0} → Numbers → Numbers → Event T → Type 0
ChangesNumbers old new Timeout = ⊥
ChangesNumbers old new Beat = ⊥
ChangesNumbers old new Yield = ⊥
ChangesNumbers old new (Connect number) = MeetsClient old new number
ChangesNumbers old new (Bytes number piece) = HearsClient old new number
ChangesNumbers old new (Hangup number) = LeavesSocket old new number
ChangesNumbers old new (Peer message) = ⊥
ChangesNumbers old new (ReadDone number told) = ⊥

abbrev pub ChangesNumbersIfAny : {T : Type 0} → Numbers → Numbers → Option (Event T) → Type 0
ChangesNumbersIfAny old new None = new ≡ old
ChangesNumbersIfAny old new (Some event) = ChangesNumbers old new event

-- these events came, one after another
unfoldable pub EventsCome : {T : Type 0} → Numbers → List (Event T) → Numbers → Type 0
EventsCome old [] new = new ≡ old
EventsCome {T = T} old (event ∷ events) new = (next : Numbers) × ChangesNumbers old next event × EventsCome next events new

-- nothing comes of this number
unfoldable pub IsFinished : {T : Type 0} → ℕ → List (Event T) → Type 0
IsFinished number [] = Unit {0}
IsFinished number (Connect other ∷ events) = (other ≢ number) × IsFinished number events
IsFinished number (Bytes other piece ∷ events) = (other ≢ number) × IsFinished number events
IsFinished number (Hangup other ∷ events) = (other ≢ number) × IsFinished number events
IsFinished number (event ∷ events) = IsFinished number events

-- bytes may come of this number, and one Hangup, after which nothing does
unfoldable pub IsOpen : {T : Type 0} → ℕ → List (Event T) → Type 0
IsOpen number [] = Unit {0}
IsOpen number (Connect other ∷ events) = (other ≢ number) × IsOpen number events
IsOpen number (Hangup other ∷ events) = (other ≡ number → IsFinished number events) × (other ≢ number → IsOpen number events)
IsOpen number (event ∷ events) = IsOpen number events

-- one Connect may come of this number, and nothing does before it
unfoldable pub LivesOnce : {T : Type 0} → ℕ → List (Event T) → Type 0
LivesOnce number [] = Unit {0}
LivesOnce number (Connect other ∷ events) = (other ≡ number → IsOpen number events) × (other ≢ number → LivesOnce number events)
LivesOnce number (Bytes other piece ∷ events) = (other ≢ number) × LivesOnce number events
LivesOnce number (Hangup other ∷ events) = (other ≢ number) × LivesOnce number events
LivesOnce number (event ∷ events) = LivesOnce number events
