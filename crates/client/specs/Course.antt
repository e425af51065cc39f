-- A client: what it wants, where it stands, and what it does when something happens. It makes tries, one for each of its addresses,
-- in rounds. In a try it dials the address, asks which server leads, follows the answer once, opens the database there and sends
-- the statement.
use Rattle.std.specs.Prelude.{◌≡◌, ◌<◌, ◌≤◌, ◌+◌, ◌*◌, ◌%◌, ◌==◌, ℕ, Bool, true, false, List, [], ◌∷◌, ◌++◌, length, get_or, nat_lt, Result, Ok, Err, MatchResult, if◌then◌else◌, bytes_eq}
use Rattle.std.specs.declared.alloc.AllocError.{AllocError}
use Rattle.wire_words.specs.Items.{HasNoNul}
use Rattle.wire_msgs.specs.declared.response.Response.{Response}
use Rattle.wire_msgs.specs.declared.response.Response.TheVariants as responses
use Rattle.wire_rows.specs.declared.part.Part.{Part}
use Rattle.wire_rows.specs.declared.part.More.{More}
use Rattle.wire_rows.specs.declared.part.More.TheVariants as mores
use Rattle.wire_rows.specs.declared.fault.RowReadFault.{RowReadFault}
use Rattle.wire_rows.specs.Reading.{part_of}
use Rattle.client.specs.declared.events.ClientEvent.{ClientEvent}
use Rattle.client.specs.declared.events.ClientEvent.TheVariants as events
use Rattle.client.specs.declared.events.ClientAction.{ClientAction}
use Rattle.client.specs.declared.events.ClientAction.TheVariants.{Dial, Send, Wait, Done}
use Rattle.client.specs.declared.events.ClientEnd.{ClientEnd}
use Rattle.client.specs.declared.events.ClientEnd.TheVariants as client_ends
use Rattle.client.specs.declared.course.Awaited.{Awaited}
use Rattle.client.specs.declared.course.Awaited.TheVariants as awaited
use Rattle.client.specs.declared.course.Course.{Course}
use Rattle.client.specs.Sending.{leader_bytes, open_bytes, opening_bytes, statement_bytes}

-- what the client does, and where it then stands
abbrev pub Turned : Type 0
Turned = ClientAction × Course

-- the address of the try with this number, counted from 0
abbrev pub address_of : Course → ℕ → List ℕ
address_of course try = get_or course.addresses (try % length course.addresses) []

-- the address of the try
abbrev pub own_address : Course → List ℕ
own_address course = address_of course course.tries

-- the address of the try after it
abbrev pub next_address : Course → List ℕ
next_address course = address_of course (course.tries + 1)

abbrev pub is_own : Course → List ℕ → Bool
is_own course address = bytes_eq address (own_address course)

-- ---- what it may do

-- it waits, and nothing changes
abbrev pub waits : Course → Turned
waits course = (Wait, course)

abbrev pub awaiting : Awaited → Course → Course
awaiting next course = record course { awaited = next }

-- it sends bytes and awaits what comes
abbrev pub sends : List ℕ → Awaited → Course → Turned
sends bytes next course = (Send bytes, awaiting next course)

-- it has ended
abbrev pub ends : ClientEnd → Course → Turned
ends end course = (Done end, record course { awaited = awaited.Nothing; parts = []; size = 0 })

abbrev pub refuses : Course → ℕ → List ℕ → Turned
refuses course code text = ends (client_ends.Refused code text) course

-- it dials the address of the try
abbrev pub dials : Course → Turned
dials course = (Dial (own_address course), awaiting awaited.Link course)

-- it dials the address that a server named as the leader's
abbrev pub follows : Course → List ℕ → Turned
follows course address = (Dial address, awaiting awaited.LeaderLink course)

-- the try after this one
abbrev pub next_try : Course → Course
next_try course = record course { awaited = awaited.Link; tries = course.tries + 1; parts = []; size = 0 }

-- The try has ended: the next address of the list follows. After three rounds of the list no leader was found.
unfoldable pub try_ends : Course → Turned
try_ends course =
    if course.tries + 1 == 3 * length course.addresses then ends (client_ends.NoLeader (course.tries + 1)) course
    else (Dial (next_address course), next_try course)

-- ---- what happens

abbrev pub on_begin : Course → ClientEvent → Turned
on_begin course events.Begin = dials course
on_begin course event = waits course

-- a new connection: which server leads
abbrev pub on_link : Course → ClientEvent → Turned
on_link course events.Dialled = sends leader_bytes awaited.Server course
on_link course events.NotDialled = try_ends course
on_link course event = waits course

-- a new connection to the leader
abbrev pub on_leader_link : Course → ClientEvent → Turned
on_leader_link course events.Dialled = sends (opening_bytes course.name) awaited.Db course
on_leader_link course events.NotDialled = try_ends course
on_leader_link course event = waits course

-- Which server leads is known: none, the one that was asked, or another one.
unfoldable pub server_is : Course → ℕ → List ℕ → Turned
server_is course id address =
    if id == 0 then try_ends course
    else if is_own course address then sends (open_bytes course.name) awaited.Db course
    else follows course address

abbrev pub on_server : Course → Response → Turned
on_server course (responses.Server id address) = server_is course id address
on_server course (responses.Failure code text) = refuses course code text
on_server course response = try_ends course

-- OPEN is refused
unfoldable pub db_refuses : Course → ℕ → List ℕ → Turned
db_refuses course code text = if code == 10250 then try_ends course else refuses course code text

-- the database is open: the statement is sent
abbrev pub states_in : Course → ℕ → Turned
states_in course db = sends (statement_bytes course.query db course.sql) awaited.Answer course

abbrev pub on_db : Course → Response → Turned
on_db course (responses.Db id) = states_in course id
on_db course (responses.Failure code text) = db_refuses course code text
on_db course response = try_ends course

-- the statement is refused
unfoldable pub answer_refuses : Course → ℕ → List ℕ → Turned
answer_refuses course code text =
    if code == 10250 then try_ends course
    else if code == 10506 then ends client_ends.Unknown course
    else refuses course code text

-- a part of the rows
abbrev pub part_is : Course → ℕ → Part → More → Turned
part_is course size part mores.Follows = (Wait, record course { parts = course.parts ++ part ∷ []; size = course.size + size })
part_is course size part mores.Last = ends (client_ends.Rows (course.parts ++ part ∷ [])) course

abbrev pub part_comes : Course → ℕ → Result (Part × More) RowReadFault → Turned
part_comes course size (Ok read) = part_is course size read.0 read.1
part_comes course size (Err fault) = ends client_ends.Unknown course

-- a body of rows: all of them together have at most 16,777,216 bytes
unfoldable pub rows_come : Course → List ℕ → Turned
rows_come course body =
    if nat_lt 16777216 (course.size + length body) then ends client_ends.Unknown course
    else part_comes course (length body) (part_of body)

abbrev pub on_answer : Bool → Course → Response → Turned
on_answer query course (responses.Failure code text) = answer_refuses course code text
on_answer false course (responses.Result last changed) = ends (client_ends.Result changed) course
on_answer true course (responses.Rows body) = rows_come course body
on_answer query course response = ends client_ends.Unknown course

abbrev pub on_asked : Course → ClientEvent → Turned
on_asked course (events.Got response) = on_server course response
on_asked course events.Broken = try_ends course
on_asked course event = waits course

abbrev pub on_opened : Course → ClientEvent → Turned
on_opened course (events.Got response) = on_db course response
on_opened course events.Broken = try_ends course
on_opened course event = waits course

abbrev pub on_stated : Course → ClientEvent → Turned
on_stated course (events.Got response) = on_answer course.query course response
on_stated course events.Broken = ends client_ends.Unknown course
on_stated course event = waits course

abbrev pub on : Awaited → Course → ClientEvent → Turned
on awaited.Begin course event = on_begin course event
on awaited.Link course event = on_link course event
on awaited.LeaderLink course event = on_leader_link course event
on awaited.Server course event = on_asked course event
on awaited.Db course event = on_opened course event
on awaited.Answer course event = on_stated course event
on awaited.Nothing course event = waits course

-- what a client does when something happens: what isn't awaited changes nothing
unfoldable pub step : Course → ClientEvent → Turned
step course event = on course.awaited course event

-- ---- what a call gives

-- It has 1 to 9 addresses, no text that is sent holds a NUL, it has tries left, and what was read of an answer is within its bound.
pub record IsSound (course : Course) : Type 0 where
  pub some : 0 < length course.addresses
  pub few : length course.addresses ≤ 9
  pub name : HasNoNul course.name
  pub sql : HasNoNul course.sql
  pub tries : course.tries < 3 * length course.addresses
  pub size : course.size ≤ 16777216

-- A call did what is wanted; or memory ran out, and nothing has changed.
abbrev pub Takes : Turned → Course → Course → Result ClientAction AllocError → Type 0
Takes wanted old new result = MatchResult result (λ does. (does, new) ≡ wanted) (λ _. new ≡ old)

-- a client that hasn't begun
abbrev pub begun : List (List ℕ) → List ℕ → List ℕ → Bool → Course
begun addresses name sql query = record { addresses = addresses; name = name; sql = sql; query = query; awaited = awaited.Begin; tries = 0; parts = []; size = 0 }
