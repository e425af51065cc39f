-- The clients of a node: their open connections, their sessions, and whose turn it is.
use Rattle.std.specs.Prelude.{◌≡◌, ℕ, ◌==◌, Bool, true, false, List, [], ◌∷◌, ◌++◌, nat_lt, length, is_none, Option, Some, None, if◌then◌else◌}
use Rattle.std.specs.Option.{option_or}
use Rattle.wire_words.specs.declared.message.Message.{Message}
use Rattle.client_connection.specs.declared.connection.CloseReason.{CloseReason}
use Rattle.client_connection.specs.Connection.{Conn, opened, received, reason_of}
use Rattle.session_spec.specs.Sessions.{Kind, Opening, Configuring, Writing, Committing, Querying, Flight, Later}
use Rattle.session_spec.specs.Sessions.{Session, Gateway, no_sessions, is_flying, is_busy}
use Rattle.session_spec.specs.Events.{connects, connected, on_hangup}
use Rattle.session_spec.specs.Touched.{IsListed}
use Rattle.client_sessions.specs.Sending.{FlightCanSend}
use Rattle.client_sessions.specs.declared.connect_result.ConnectResult.{ConnectResult}
use Rattle.client_sessions.specs.declared.connect_result.ConnectResult.TheVariants.{Joined, Full, Taken}

-- The sessions; the streams of the open connections; and the connections whose turn it is, in order. A connection gets a
-- turn where its bytes come, and if its session is freed. Between two steps of the node none has one.
pub record Clients : Type 0 where
  pub sessions : Gateway
  pub streams : ℕ → Option Conn
  pub turns : List ℕ

-- a node that has just started
abbrev pub no_clients : Clients
no_clients = record { sessions = no_sessions; streams = λ conn. None; turns = [] }

-- the streams with one place changed
abbrev pub with_stream : (ℕ → Option Conn) → ℕ → Option Conn → ℕ → Option Conn
with_stream streams conn stream other = if other == conn then stream else streams other

-- ---- connections that come and go

-- How a connection comes: its number may be taken, by one that is open or by one that hung up and whose proposal is in
-- pending proposal; there may be no room; or it gets a session.
unfoldable pub joining : Gateway → ℕ → ConnectResult
joining g conn = if (g.session conn).there then Taken else if connects g conn then Joined else Full

abbrev pub joined_as : Clients → ℕ → ConnectResult → Clients
joined_as k conn Joined = record { sessions = connected k.sessions conn; streams = with_stream k.streams conn (Some opened); turns = k.turns }
joined_as k conn Full = k
joined_as k conn Taken = k

-- the clients after a connection came
abbrev pub joined : Clients → ℕ → Clients
joined k conn = joined_as k conn (joining k.sessions conn)

-- the clients after one of them went, whose connection is open
abbrev pub without : Clients → ℕ → Clients
without k conn = record { sessions = on_hangup k.sessions conn; streams = with_stream k.streams conn None; turns = k.turns }

-- the clients after one of them hung up; of a connection that isn't open this changes nothing
unfoldable pub hung_up : Clients → ℕ → Clients
hung_up k conn = if is_none (k.streams conn) then k else without k conn

-- why a connection is to be closed, if it is open and is to be
abbrev pub closing : Option Conn → Option CloseReason
closing None = None
closing (Some stream) = reason_of stream

-- the clients after a connection was closed, if it was to be
unfoldable pub closed : Clients → ℕ → Clients
closed k conn = if is_none (closing (k.streams conn)) then k else without k conn

-- ---- bytes and messages

abbrev pub heard_on : Clients → ℕ → List ℕ → Option Conn → Clients
heard_on k conn bytes None = k
heard_on k conn bytes (Some stream) =
    record { sessions = k.sessions; streams = with_stream k.streams conn (Some (received stream bytes)); turns = k.turns ++ conn ∷ [] }

-- the clients after bytes came on a connection; on one that isn't open they change nothing
unfoldable pub heard : Clients → ℕ → List ℕ → Clients
heard k conn bytes = heard_on k conn bytes (k.streams conn)

-- A message whose turn it is: its connection, the message, the stream after it, and the turns from this one on.
pub record Offer : Type 0 where
  pub conn : ℕ
  pub message : Message
  pub stream : Conn
  pub turns : List ℕ

abbrev pub first_of : ℕ → List ℕ → Conn → List Message → Option Offer
first_of conn turns stream [] = None
first_of conn turns stream (m ∷ ms) =
    Some (record { conn = conn; message = m; stream = record { end = stream.end; waiting = ms; full = stream.full }; turns = conn ∷ turns })

-- the first message that waits on a connection, if it is open and its session isn't busy
abbrev pub offered_on : ℕ → List ℕ → Bool → Option Conn → Option Offer
offered_on conn turns true stream = None
offered_on conn turns false None = None
offered_on conn turns false (Some stream) = first_of conn turns stream stream.waiting

abbrev pub offered : Clients → ℕ → List ℕ → Option Offer
offered k conn turns = offered_on conn turns (is_busy (k.sessions.session conn)) (k.streams conn)

abbrev pub offer_of : Clients → List ℕ → Option Offer
offer_of k [] = None
offer_of k (conn ∷ turns) = option_or (offered k conn turns) (offer_of k turns)

-- The message whose turn it is: the first one of the first connection in turn that has one and whose session isn't busy.
unfoldable pub next_offer : Clients → Option Offer
next_offer k = offer_of k k.turns

-- What that means: the message is the first that waits on a connection that is open and whose session isn't busy, and the
-- offer's stream is what is left after it.
pub record IsOffered (k : Clients) (offer : Offer) : Type 0 where
  pub stream : Conn
  pub opens : k.streams offer.conn ≡ Some stream
  pub first : stream ≡ record { end = offer.stream.end; waiting = offer.message ∷ offer.stream.waiting; full = offer.stream.full }
  pub idle : is_busy (k.sessions.session offer.conn) ≡ false

-- the clients without it; without one, no connection's turn is left
abbrev pub taken : Clients → Option Offer → Clients
taken k None = record { sessions = k.sessions; streams = k.streams; turns = [] }
taken k (Some offer) = record { sessions = k.sessions; streams = with_stream k.streams offer.conn (Some offer.stream); turns = offer.turns }

-- the clients with other sessions
abbrev pub with_sessions : Clients → Gateway → Clients
with_sessions k sessions = record { sessions = sessions; streams = k.streams; turns = k.turns }

-- the clients with other sessions, of which these connections get a turn after the others
abbrev pub freed : Clients → Gateway → List ℕ → Clients
freed k sessions conns = record { sessions = sessions; streams = k.streams; turns = k.turns ++ conns }

-- no transaction is open at these sessions
abbrev pub NoneIsOpen : Gateway → Type 0
NoneIsOpen g = (conn : ℕ) → (g.session conn).tx ≡ None

abbrev pub HasNoTransactions : Clients → Type 0
HasNoTransactions k = NoneIsOpen k.sessions

-- ---- what holds of clients at all times

-- A connection is open exactly if its session is there and hasn't hung up. A session that has hung up has a proposal in
-- pending proposal, and one that has yet to answer its last request is there.
abbrev pub Fits : Option Conn → Session → Type 0
Fits None s = (s.there ≡ true → (s.hung ≡ true) × (is_flying s ≡ true)) × (is_busy s ≡ true → s.there ≡ true)
Fits (Some stream) s = (s.there ≡ true) × (s.hung ≡ false)

-- a query is asked of a database that was opened
abbrev pub KindIsOpened : List ℕ → Kind → Type 0
KindIsOpened database Opening = Unit {0}
KindIsOpened database (Configuring short) = Unit {0}
KindIsOpened database (Writing reply) = Unit {0}
KindIsOpened database Committing = Unit {0}
KindIsOpened database (Querying statement) = nat_lt 0 (length database) ≡ true

-- A session waits for one thing at most: for its proposal, or for its query to be run. A query that waits for its answer, and
-- one whose barrier is pending, is asked of a database that the session has opened.
abbrev pub Awaits : List ℕ → Option Flight → Option Later → Type 0
Awaits database None None = Unit {0}
Awaits database None (Some later) = nat_lt 0 (length database) ≡ true
Awaits database (Some f) None = KindIsOpened database f.kind
Awaits database (Some f) (Some later) = ⊥

-- This holds for every connection; the reply that a pending proposal gets can be sent; an open transaction has the numbers of all
-- pages that it changed; and what each session waits for is one thing.
pub record Sound (k : Clients) : Type 0 where
  pub fits : (conn : ℕ) → Fits (k.streams conn) (k.sessions.session conn)
  pub sends : (conn : ℕ) → FlightCanSend (k.sessions.session conn).flight
  pub listed : (conn : ℕ) → IsListed (k.sessions.session conn).tx
  pub awaits : (conn : ℕ) → Awaits (k.sessions.session conn).database (k.sessions.session conn).flight (k.sessions.session conn).later
