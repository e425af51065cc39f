-- What a client awaits, by what it did last.
use Rattle.std.specs.Prelude.{◌≡◌, ◌⊎◌, Bool, true, false, List, [], ◌∷◌, Ok}
use Rattle.wire_msgs.specs.declared.response.Response.TheVariants as responses
use Rattle.wire_rows.specs.declared.part.Part.{Part}
use Rattle.wire_rows.specs.declared.part.More.TheVariants.{Follows}
use Rattle.wire_rows.specs.Reading.{part_of}
use Rattle.client.specs.declared.events.ClientEvent.{ClientEvent}
use Rattle.client.specs.declared.events.ClientEvent.TheVariants as events
use Rattle.client.specs.declared.events.ClientAction.{ClientAction}
use Rattle.client.specs.declared.events.ClientAction.TheVariants.{Dial, Send, Wait, Done}
use Rattle.client.specs.declared.course.Awaited.{Awaited}
use Rattle.client.specs.declared.course.Awaited.TheVariants as awaited
use Rattle.client.specs.Laws.{Turn}

-- that it begins; what comes of its dial; what comes on its connection; nothing, as it has ended
pub data Awaits : Type 0 where
  ToBegin : Awaits
  ToDial : Awaits
  ToHear : Awaits
  ToRest : Awaits

abbrev pub awaits_after : Awaits → ClientAction → Awaits
awaits_after awaits (Dial address) = ToDial
awaits_after awaits (Send bytes) = ToHear
awaits_after awaits Wait = awaits
awaits_after awaits (Done end) = ToRest

abbrev pub is_awaited : Awaits → ClientEvent → Bool
is_awaited ToBegin events.Begin = true
is_awaited ToDial events.Dialled = true
is_awaited ToDial events.NotDialled = true
is_awaited ToHear (events.Got response) = true
is_awaited ToHear events.Broken = true
is_awaited awaits event = false

-- the same, by where the client stands
abbrev pub awaits_of : Awaited → Awaits
awaits_of awaited.Begin = ToBegin
awaits_of awaited.Link = ToDial
awaits_of awaited.LeaderLink = ToDial
awaits_of awaited.Server = ToHear
awaits_of awaited.Db = ToHear
awaits_of awaited.Answer = ToHear
awaits_of awaited.Nothing = ToRest

-- a part of rows after which another follows
abbrev pub IsPart : ClientEvent → Type 0
IsPart (events.Got (responses.Rows body)) = (part : Part) × (part_of body ≡ Ok (part, Follows))
IsPart event = ⊥

-- The client waits where something isn't awaited, and at a part of rows after which another follows, and nowhere else.
abbrev pub Heeds : Awaits → ClientEvent → ClientAction → Type 0
Heeds awaits event Wait = (is_awaited awaits event ≡ false) ⊎ IsPart event
Heeds awaits event (Dial address) = is_awaited awaits event ≡ true
Heeds awaits event (Send bytes) = is_awaited awaits event ≡ true
Heeds awaits event (Done end) = is_awaited awaits event ≡ true

-- it does so at each turn
unfoldable pub AllHeed : Awaits → List Turn → Type 0
AllHeed awaits [] = Unit {0}
AllHeed awaits (turn ∷ turns) = Heeds awaits turn.event turn.does × AllHeed (awaits_after awaits turn.does) turns
