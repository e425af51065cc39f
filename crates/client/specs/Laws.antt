-- What holds of all that a client does, whatever happens to it.
use Rattle.std.specs.Prelude.{◌≡◌, ◌≢◌, ◌<◌, ◌≤◌, ◌+◌, ◌*◌, ◌%◌, ◌==◌, ◌||◌, ℕ, Bool, true, false, not, List, [], ◌∷◌, ◌++◌, length, get_or, slice_index, drop, Ok, Err, if◌then◌else◌, ◌⊎◌}
use Rattle.wire_msgs.specs.declared.response.Response.TheVariants as responses
use Rattle.wire_rows.specs.declared.part.Part.{Part}
use Rattle.wire_rows.specs.declared.part.More.TheVariants.{Last, Follows}
use Rattle.wire_rows.specs.declared.fault.RowReadFault.{RowReadFault}
use Rattle.wire_rows.specs.Reading.{part_of}
use Rattle.client.specs.declared.events.ClientEvent.{ClientEvent}
use Rattle.client.specs.declared.events.ClientEvent.TheVariants as events
use Rattle.client.specs.declared.events.ClientAction.{ClientAction}
use Rattle.client.specs.declared.events.ClientAction.TheVariants.{Dial, Send, Wait, Done}
use Rattle.client.specs.declared.events.ClientEnd.{ClientEnd}
use Rattle.client.specs.declared.events.ClientEnd.TheVariants as client_ends
use Rattle.client.specs.declared.course.Course.{Course}
use Rattle.client.specs.Course.{step}
use Rattle.client.specs.Sending.{statement_bytes}

-- an event, and what the client does then
pub record Turn : Type 0 where
  pub event : ClientEvent
  pub does : ClientAction

-- what a client does for each of these events
unfoldable pub turns : Course → List ClientEvent → List Turn
turns course [] = []
turns course (event ∷ events) = record { event = event; does = (step course event).0 } ∷ turns (step course event).1 events

-- what a client wants, which stays the same
pub record Wanted : Type 0 where
  pub addresses : List (List ℕ)
  pub sql : List ℕ
  pub query : Bool

-- ---- what is sent

-- the type of the message at the front of these bytes
abbrev pub kind_of : List ℕ → ℕ
kind_of bytes = slice_index bytes 4

-- a statement: a text that answers no rows, or one that does
unfoldable pub is_statement : List ℕ → Bool
is_statement bytes = (kind_of bytes == 8) || (kind_of bytes == 9)

-- OPEN, which may follow the word of the version
unfoldable pub is_open : List ℕ → Bool
is_open bytes = (kind_of bytes == 3) || (kind_of (drop 8 bytes) == 3)

-- ---- how it is with the statement

-- It isn't sent in this try, and on the connection the database was asked for or not; it is sent, and since then these bodies of rows
-- have come; or the client has ended.
pub data Phase : Type 0 where
  Free : Bool → Phase
  Stated : List (List ℕ) → Phase
  Over : Phase

abbrev pub with_body : List (List ℕ) → ClientEvent → List (List ℕ)
with_body bodies (events.Got (responses.Rows body)) = bodies ++ body ∷ []
with_body bodies event = bodies

abbrev pub heard : Phase → ClientEvent → Phase
heard (Free opened) event = Free opened
heard (Stated bodies) event = Stated (with_body bodies event)
heard Over event = Over

abbrev pub phase_after : Phase → ClientEvent → ClientAction → Phase
phase_after phase event (Dial address) = Free false
phase_after phase event (Send bytes) = if is_statement bytes then Stated [] else Free (is_open bytes)
phase_after phase event Wait = heard phase event
phase_after phase event (Done end) = Over

-- A server names another address as the leader's, on a connection on which the database wasn't asked for.
abbrev pub is_followed : Phase → ClientEvent → Bool
is_followed (Free false) (events.Got (responses.Server id address)) = not (id == 0)
is_followed phase event = false

-- how many tries were begun: each address that is dialled and was not named by a server begins one
abbrev pub tries_after : ℕ → Phase → ClientEvent → ClientAction → ℕ
tries_after tries phase event (Dial address) = if is_followed phase event then tries else tries + 1
tries_after tries phase event does = tries

-- ---- what the client may do

-- the server says that it doesn't lead
abbrev pub IsElsewhere : ClientEvent → Type 0
IsElsewhere (events.Got (responses.Failure code text)) = code ≡ 10250
IsElsewhere event = ⊥

-- By this the client begins, or a try ends in which no statement was sent: there is no connection, or another response than the awaited
-- one, or none leads; or OPEN is answered 10250.
abbrev pub BeginsOrEnds : ℕ → Bool → ClientEvent → Type 0
BeginsOrEnds tries opened events.Begin = tries ≡ 0
BeginsOrEnds tries opened events.Dialled = ⊥
BeginsOrEnds tries opened events.NotDialled = Unit {0}
BeginsOrEnds tries opened events.Broken = Unit {0}
BeginsOrEnds tries opened (events.Got (responses.Failure code text)) = (opened ≡ true) × (code ≡ 10250)
BeginsOrEnds tries opened (events.Got (responses.Db id)) = opened ≡ false
BeginsOrEnds tries opened (events.Got response) = Unit {0}

-- the next address of the list, of which there are three rounds
pub record IsNextTry (wanted : Wanted) (tries : ℕ) (address : List ℕ) : Type 0 where
  pub within : tries < 3 * length wanted.addresses
  pub next : address ≡ get_or wanted.addresses (tries % length wanted.addresses) []

-- the three rounds are over
pub record AreOver (wanted : Wanted) (tries n : ℕ) : Type 0 where
  pub are : n ≡ tries
  pub over : n ≡ 3 * length wanted.addresses

-- the address that the server named
abbrev pub IsNamed : ClientEvent → List ℕ → Type 0
IsNamed (events.Got (responses.Server id named)) address = address ≡ named
IsNamed event address = ⊥

-- an address is dialled before the statement was sent: the leader's, or that of the next try
abbrev pub MayDial : Bool → Wanted → ℕ → Bool → ClientEvent → List ℕ → Type 0
MayDial true wanted tries opened event address = IsNamed event address
MayDial false wanted tries opened event address = IsNextTry wanted tries address × BeginsOrEnds tries opened event

-- The statement is sent only when the database is open on this connection.
abbrev pub MaySend : Bool → Wanted → Bool → ClientEvent → List ℕ → Type 0
MaySend true wanted opened (events.Got (responses.Db id)) bytes = (opened ≡ true) × (bytes ≡ statement_bytes wanted.query id wanted.sql)
MaySend true wanted opened event bytes = ⊥
MaySend false wanted opened event bytes = Unit {0}

abbrev pub IsFailure : ClientEvent → ℕ → List ℕ → Type 0
IsFailure (events.Got (responses.Failure code text)) c t = (code ≡ c) × (text ≡ t)
IsFailure event c t = ⊥

-- an end before the statement was sent
abbrev pub MayEnd : Bool → Wanted → ℕ → Bool → ClientEvent → ClientEnd → Type 0
MayEnd followed wanted tries opened event (client_ends.Refused code text) = IsFailure event code text × (opened ≡ true → code ≢ 10250)
MayEnd followed wanted tries opened event (client_ends.NoLeader n) = (followed ≡ false) × AreOver wanted tries n × BeginsOrEnds tries opened event
MayEnd followed wanted tries opened event end = ⊥

-- how many bytes these bodies have
abbrev pub bytes_in : List (List ℕ) → ℕ
bytes_in [] = 0
bytes_in (body ∷ bodies) = length body + bytes_in bodies

-- these are the parts of these bodies, and after each another follows
abbrev pub AreRead : List (List ℕ) → List Part → Type 0
AreRead [] [] = Unit {0}
AreRead (body ∷ bodies) (part ∷ parts) = (part_of body ≡ Ok (part, Follows)) × AreRead bodies parts
AreRead bodies parts = ⊥

-- the parts of these bodies and the one of the last, which says that none follows
pub record AreParts (bodies : List (List ℕ)) (body : List ℕ) (parts : List Part) : Type 0 where
  pub front : List Part
  pub part : Part
  pub are : parts ≡ front ++ part ∷ []
  pub read : AreRead bodies front
  pub last : part_of body ≡ Ok (part, Last)
  pub bound : bytes_in bodies + length body ≤ 16777216

abbrev pub IsLastOf : ClientEvent → List (List ℕ) → List Part → Type 0
IsLastOf (events.Got (responses.Rows body)) bodies parts = AreParts bodies body parts
IsLastOf event bodies parts = ⊥

abbrev pub IsChange : ClientEvent → ℕ → Type 0
IsChange (events.Got (responses.Result last changed)) n = changed ≡ n
IsChange event n = ⊥

-- rows of which all together have too many bytes, or a body that can't be read
abbrev pub IsUnreadable : List (List ℕ) → List ℕ → Type 0
IsUnreadable bodies body = (16777216 < bytes_in bodies + length body) ⊎ (fault : RowReadFault) × (part_of body ≡ Err fault)

-- after this the statement may have been run or not
abbrev pub LeavesOpen : Bool → List (List ℕ) → ClientEvent → Type 0
LeavesOpen query bodies events.Broken = Unit {0}
LeavesOpen query bodies (events.Got (responses.Failure code text)) = code ≡ 10506
LeavesOpen true bodies (events.Got (responses.Rows body)) = IsUnreadable bodies body
LeavesOpen false bodies (events.Got (responses.Result last changed)) = ⊥
LeavesOpen query bodies (events.Got response) = Unit {0}
LeavesOpen query bodies event = ⊥

-- an end after the statement was sent: it is what the answer to it says
abbrev pub IsSaid : Wanted → ℕ → List (List ℕ) → ClientEvent → ClientEnd → Type 0
IsSaid wanted tries bodies event (client_ends.Result changed) = (wanted.query ≡ false) × IsChange event changed
IsSaid wanted tries bodies event (client_ends.Rows parts) = (wanted.query ≡ true) × IsLastOf event bodies parts
IsSaid wanted tries bodies event (client_ends.Refused code text) = IsFailure event code text × (code ≢ 10250) × (code ≢ 10506)
IsSaid wanted tries bodies event (client_ends.NoLeader n) = IsElsewhere event × AreOver wanted tries n
IsSaid wanted tries bodies event client_ends.Unknown = LeavesOpen wanted.query bodies event

abbrev pub IsWait : ClientAction → Type 0
IsWait Wait = Unit {0}
IsWait does = ⊥

-- What a client may do, by how it is with the statement. After the statement it continues only if that was answered 10250, and
-- never sends another one before.
abbrev pub Obeys : Wanted → ℕ → Phase → ClientEvent → ClientAction → Type 0
Obeys wanted tries (Free opened) event (Dial address) = MayDial (is_followed (Free opened) event) wanted tries opened event address
Obeys wanted tries (Free opened) event (Send bytes) = MaySend (is_statement bytes) wanted opened event bytes
Obeys wanted tries (Free opened) event Wait = Unit {0}
Obeys wanted tries (Free opened) event (Done end) = MayEnd (is_followed (Free opened) event) wanted tries opened event end
Obeys wanted tries (Stated bodies) event (Dial address) = IsElsewhere event × IsNextTry wanted tries address
Obeys wanted tries (Stated bodies) event (Send bytes) = ⊥
Obeys wanted tries (Stated bodies) event Wait = Unit {0}
Obeys wanted tries (Stated bodies) event (Done end) = IsSaid wanted tries bodies event end
Obeys wanted tries Over event does = IsWait does

-- it does so at each turn
unfoldable pub AllObey : Wanted → ℕ → Phase → List Turn → Type 0
AllObey wanted tries phase [] = Unit {0}
AllObey wanted tries phase (turn ∷ turns) =
    Obeys wanted tries phase turn.event turn.does
    × AllObey wanted (tries_after tries phase turn.event turn.does) (phase_after phase turn.event turn.does) turns

-- ---- statements that were sent

abbrev pub sends_statement : ClientAction → Bool
sends_statement (Send bytes) = is_statement bytes
sends_statement does = false

abbrev pub any_statement : List Turn → Bool
any_statement [] = false
any_statement (turn ∷ turns) = sends_statement turn.does || any_statement turns

-- the answer at a turn, if the client doesn't wait there
abbrev pub IsFirst : ClientAction → ClientEvent → Type 0 → Type 0
IsFirst Wait event behind = behind
IsFirst (Dial address) event behind = IsElsewhere event
IsFirst (Send bytes) event behind = IsElsewhere event
IsFirst (Done end) event behind = IsElsewhere event

-- the first turn at which the client doesn't wait is that of an answer 10250
unfoldable pub FirstElsewhere : List Turn → Type 0
FirstElsewhere [] = ⊥
FirstElsewhere (turn ∷ turns) = IsFirst turn.does turn.event (FirstElsewhere turns)

-- each statement that was sent, but the last, was answered 10250
unfoldable pub AreElsewhere : List Turn → Type 0
AreElsewhere [] = Unit {0}
AreElsewhere (turn ∷ turns) =
    (sends_statement turn.does ≡ true → any_statement turns ≡ true → FirstElsewhere turns) × AreElsewhere turns
