-- What happens to all sessions of a table: an entry is applied, leadership is lost, a client goes.
use Rattle.std.specs.Prelude.{ℕ, ◌==◌, ◌≡◌, ◌&&◌, ◌||◌, not, is_none, Bool, true, false, List, [], ◌∷◌, ◌++◌, map, Option, Some, None, if◌then◌else◌}
use Rattle.std.specs.List.{flat_map}
use Rattle.wire_msgs.specs.declared.response.Response.{Response}
use Rattle.database_state.specs.declared.database.Database.{Database}
use Rattle.database_state.specs.Pins.{Pinning}
use Rattle.session_spec.specs.Sessions.{Kind, Opening, Configuring, Writing, Committing, Querying, Flight, Reply, Gateway, responses_of}
use Rattle.session_spec.specs.Events as events
use Rattle.session_spec.specs.Requests.{with_tx, with_session}
use Rattle.sql_engine.specs.Replies.{Statement}
use Rattle.session_table.specs.declared.session.Session.{Session}
use Rattle.session_table.specs.declared.session.WaitingQuery.{WaitingQuery}
use Rattle.session_table.specs.declared.session.WaitingQuery.TheVariants.{Due, Lent}
use Rattle.session_table.specs.declared.sweep.Event.{Event}
use Rattle.session_table.specs.declared.sweep.Event.TheVariants.{Applied, Lost, Left, Ended}
use Rattle.session_table.specs.Table.{pin_of}
use Rattle.session_table.specs.Marks.{Released}

-- a session that has hung up
abbrev pub hung_up : Session → Session
hung_up s = record { conn = s.conn; hung = true; database = s.database; barriers = s.barriers; later = s.later; statements = s.statements; transaction = s.transaction; lost = s.lost; flight = s.flight }

-- a session without a proposal
abbrev pub landed : Session → Session
landed s = record { conn = s.conn; hung = s.hung; database = s.database; barriers = s.barriers; later = s.later; statements = s.statements; transaction = s.transaction; lost = s.lost; flight = None }

-- a session without a proposal and without a transaction
abbrev pub ended : Session → Session
ended s = record { conn = s.conn; hung = s.hung; database = s.database; barriers = s.barriers; later = s.later; statements = s.statements; transaction = None; lost = s.lost; flight = None }

-- a session without a transaction
abbrev pub stopped : Session → Session
stopped s = record { conn = s.conn; hung = s.hung; database = s.database; barriers = s.barriers; later = s.later; statements = s.statements; transaction = None; lost = s.lost; flight = s.flight }

-- a session whose new database is there
abbrev pub opened_at : Session → List ℕ → Session
opened_at s name = record { conn = s.conn; hung = s.hung; database = Some name; barriers = s.barriers; later = s.later; statements = s.statements; transaction = s.transaction; lost = s.lost; flight = None }

-- a session whose query's barrier is applied
abbrev pub due_at : Session → Statement → Session
due_at s statement = record { conn = s.conn; hung = s.hung; database = s.database; barriers = s.barriers; later = Some (Due statement); statements = s.statements; transaction = s.transaction; lost = s.lost; flight = None }

-- a reader continues with its query, if leadership is lost
abbrev pub still_lent : Option WaitingQuery → Option WaitingQuery
still_lent None = None
still_lent (Some (Due query)) = None
still_lent (Some (Lent query)) = Some (Lent query)

-- a session has a lost transaction where leadership is lost
abbrev pub loses : Session → Bool
loses s = s.lost || (not (is_none s.transaction) && not (events.is_committing s.flight))

-- a session where leadership is lost
abbrev pub lost : Session → Session
lost s = record { conn = s.conn; hung = s.hung; database = s.database; barriers = s.barriers; later = still_lent s.later; statements = s.statements; transaction = None; lost = loses s; flight = None }

-- a session whose proposal is done
abbrev pub done : Session → List ℕ → Kind → Session
done s name Opening = opened_at s name
done s name (Configuring short) = landed s
done s name (Writing reply) = landed s
done s name Committing = ended s
done s name (Querying statement) = due_at s statement

-- a proposal ends at an index
abbrev pub ends_at : ℕ → Option Flight → Bool
ends_at index None = false
ends_at index (Some f) = f.last == index

-- what is left of a session where the entry of an index is applied
abbrev pub kept_applied : ℕ → Session → Option Flight → List Session
kept_applied index s None = s ∷ []
kept_applied index s (Some f) = if f.last == index then (if s.hung then [] else done s f.name f.kind ∷ []) else s ∷ []

-- where its client goes
abbrev pub kept_left : Session → Option Flight → List Session
kept_left s None = []
kept_left s (Some f) = hung_up s ∷ []

-- what is left of a session: itself, changed or not, or nothing
abbrev pub kept : Event → Session → List Session
kept (Applied index) s = kept_applied index s s.flight
kept Lost s = if s.hung then [] else lost s ∷ []
kept (Left conn) s = if s.conn == conn then kept_left s s.flight else s ∷ []
kept (Ended conn) s = if s.conn == conn then stopped s ∷ [] else s ∷ []

abbrev pub all_kept : Event → List Session → List Session
all_kept event sessions = flat_map (kept event) sessions

-- the read marks that it lets go
abbrev pub freed_done : Session → Kind → List Pinning
freed_done s Opening = []
freed_done s (Configuring short) = []
freed_done s (Writing reply) = []
freed_done s Committing = pin_of s.transaction
freed_done s (Querying statement) = []

abbrev pub freed_applied : ℕ → Session → Option Flight → List Pinning
freed_applied index s None = []
freed_applied index s (Some f) = if f.last == index then (if s.hung then pin_of s.transaction else freed_done s f.kind) else []

abbrev pub freed_left : Session → Option Flight → List Pinning
freed_left s None = pin_of s.transaction
freed_left s (Some f) = []

abbrev pub freed : Event → Session → List Pinning
freed (Applied index) s = freed_applied index s s.flight
freed Lost s = pin_of s.transaction
freed (Left conn) s = if s.conn == conn then freed_left s s.flight else []
freed (Ended conn) s = if s.conn == conn then pin_of s.transaction else []

abbrev pub all_freed : Event → List Session → List Pinning
all_freed event sessions = flat_map (freed event) sessions

-- a reply to a connection, in the responses that it is sent in
abbrev pub told_in : ℕ × Reply → List (ℕ × Response)
told_in r = map (λ (response : Response). (r.0, response)) (responses_of r.1)

abbrev pub all_told : List (ℕ × Reply) → List (ℕ × Response)
all_told replies = flat_map told_in replies

-- the responses to a proposal that is done
abbrev pub landed_responses : Option Reply → List Response
landed_responses None = []
landed_responses (Some reply) = responses_of reply

abbrev pub told_landed : ℕ → Option Reply → List (ℕ × Response)
told_landed conn None = []
told_landed conn (Some reply) = told_in (conn, reply)

-- what its client is told where an entry is applied
abbrev pub said_applied : ℕ → Session → Option Flight → List (ℕ × Response)
said_applied index s None = []
said_applied index s (Some f) = if f.last == index then (if s.hung then [] else told_landed s.conn (events.landed_reply f.kind)) else []

abbrev pub said : Event → Session → List (ℕ × Response)
said (Applied index) s = said_applied index s s.flight
said Lost s = []
said (Left conn) s = []
said (Ended conn) s = []

abbrev pub all_said : Event → List Session → List (ℕ × Response)
all_said event sessions = flat_map (said event) sessions

-- What happened to a session: whether and how it stays, the marks that were released, and what was reported.
pub record SweptOne (event : Event) (session to : Session) (stays : Bool) (old new : List Database) (told_before told_now : List (ℕ × Response)) : Type 0 where
  pub kept : kept event session ≡ (if stays then to ∷ [] else [])
  pub freed : Released (freed event session) old new
  pub said : told_now ≡ told_before ++ said event session

-- what the rules say of the table
abbrev pub after : Event → Gateway → Gateway
after (Applied index) g = events.on_applied index g
after Lost g = events.on_lost g
after (Left conn) g = events.on_hangup g conn
after (Ended conn) g = with_session g conn (with_tx (g.session conn) None)
