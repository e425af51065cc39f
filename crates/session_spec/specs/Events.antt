-- What the node tells its sessions: connections that come and go, entries that are applied, leadership that is lost.
use Rattle.std.specs.Prelude.{ℕ, Bool, true, false, not, ◌&&◌, ◌||◌, ◌==◌, nat_lt, nat_le, List, [], ◌∷◌, ◌++◌, length, map, Option, Some, None, if◌then◌else◌}
use Rattle.std.specs.List.{filter, flat_map}
use Rattle.session_spec.specs.Causes.{LeadershipLost}
use Rattle.session_spec.specs.Sessions.{Reply, Refusal, result, change_reply, db, Kind, Opening, Configuring, Writing, Committing, Querying, Flight, Later, Due, Lent, Session, Gateway, absent, fresh, in_tx, is_flying, is_due}
use Rattle.session_spec.specs.Requests.{with_tx, with_flight, with_database, with_later, with_lost}

-- only connections that have a session are searched
unfoldable pub tidy : Gateway → (ℕ → Session) → Gateway
tidy g session = record { conns = filter (λ (conn : ℕ). (session conn).there) g.conns; session = session; weight = g.weight }

-- ---- an entry is applied

-- the session after all entries of its proposal were applied
abbrev pub landed : Session → Flight → Kind → Session
landed s f Opening = with_database s f.name
landed s f (Configuring short) = with_flight s None
landed s f (Writing reply) = with_flight s None
landed s f Committing = with_flight (with_tx s None) None
landed s f (Querying statement) = with_later (with_flight s None) (Some (Due statement))

abbrev pub settled_by : ℕ → Session → Option Flight → Session
settled_by index s None = s
settled_by index s (Some f) = if f.last == index then (if s.hung then absent else landed s f f.kind) else s

-- The entry of the index is applied: the proposal that ends with it is done.
unfoldable pub on_applied : ℕ → Gateway → Gateway
on_applied index g = tidy g (λ conn. settled_by index (g.session conn) (g.session conn).flight)

-- the reply to a proposal that is done; the query after a barrier has not been run yet
abbrev pub landed_reply : Kind → Option Reply
landed_reply Opening = Some db
landed_reply (Configuring short) = Some (change_reply short)
landed_reply (Writing reply) = Some reply
landed_reply Committing = Some (result 0)
landed_reply (Querying statement) = None

abbrev pub told_to : ℕ → Option Reply → List (ℕ × Reply)
told_to conn None = []
told_to conn (Some reply) = (conn, reply) ∷ []

abbrev pub told_by : ℕ → ℕ → Session → Option Flight → List (ℕ × Reply)
told_by index conn s None = []
told_by index conn s (Some f) = if f.last == index then (if s.hung then [] else told_to conn (landed_reply f.kind)) else []

-- who is answered when the entry of the index is applied
unfoldable pub told_applied : ℕ → Gateway → List (ℕ × Reply)
told_applied index g = flat_map (λ (conn : ℕ). told_by index conn (g.session conn) (g.session conn).flight) g.conns

-- ---- leadership is lost

-- a query after a barrier ends; a reader continues
abbrev pub still_lent : Option Later → Option Later
still_lent None = None
still_lent (Some (Due statement)) = None
still_lent (Some (Lent statement)) = Some (Lent statement)

abbrev pub commits : Kind → Bool
commits Opening = false
commits (Configuring short) = false
commits (Writing reply) = false
commits Committing = true
commits (Querying statement) = false

-- the COMMIT of the open transaction is proposed
abbrev pub is_committing : Option Flight → Bool
is_committing None = false
is_committing (Some f) = commits f.kind

-- A transaction that is open is lost, unless its COMMIT is proposed. One that was lost before stays lost.
abbrev pub loses : Session → Bool
loses s = s.lost || (in_tx s && not (is_committing s.flight))

-- proposals and transactions end; databases and statements stay
abbrev pub lost : Session → Session
lost s = if s.hung then absent else with_lost (with_later (with_flight (with_tx s None) None) (still_lent s.later)) (loses s)

unfoldable pub on_lost : Gateway → Gateway
on_lost g = tidy g (λ conn. lost (g.session conn))

-- a number put after those with a smaller key
abbrev pub placed : (ℕ → ℕ) → ℕ → List ℕ → List ℕ
placed key n [] = n ∷ []
placed key n (other ∷ others) = if nat_le (key n) (key other) then n ∷ other ∷ others else other ∷ placed key n others

-- in the order of a key
abbrev pub ordered : (ℕ → ℕ) → List ℕ → List ℕ
ordered key [] = []
ordered key (n ∷ ns) = placed key n (ordered key ns)

abbrev pub last_of : Option Flight → ℕ
last_of None = 0
last_of (Some f) = f.last

-- a client waits for a proposal, or for a query that is run next
abbrev pub waits : Session → Bool
waits s = not s.hung && (is_flying s || is_due s.later)

-- Each client that waits is informed, ascending by the last index of its proposal, of which a query that is run next has none.
unfoldable pub told_lost : Gateway → List (ℕ × Reply)
told_lost g = map (λ (conn : ℕ). (conn, Refusal LeadershipLost)) (ordered (λ (conn : ℕ). last_of (g.session conn).flight) (filter (λ (conn : ℕ). waits (g.session conn)) g.conns))

-- ---- connections

abbrev pub left : Session → Option Flight → Session
left s None = absent
left s (Some f) = record { there = s.there; hung = true; database = s.database; barriers = s.barriers; later = s.later; statements = s.statements; tx = s.tx; lost = s.lost; flight = s.flight }

-- The client goes. A pending proposal, and the write lock with it, stays until it is applied or lost.
unfoldable pub on_hangup : Gateway → ℕ → Gateway
on_hangup g conn = tidy g (λ other. if other == conn then left (g.session conn) (g.session conn).flight else g.session other)

-- A connection gets a session where there are fewer than 64, those that are hung up counted.
unfoldable pub connects : Gateway → ℕ → Bool
connects g conn = not (g.session conn).there && nat_lt (length g.conns) 64

unfoldable pub connected : Gateway → ℕ → Gateway
connected g conn = record { conns = g.conns ++ conn ∷ []; session = λ other. if other == conn then fresh else g.session other; weight = g.weight }
