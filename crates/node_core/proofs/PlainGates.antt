-- What happens to sessions is the same without the numbers of transactions in the replies that wait.
use Rattle.std.proofs.Common.{◌≡◌, ℕ, Bool, true, false, cond, List, [], ◌∷◌, ◌++◌, map, Option, Some, None, refl, sym, ap, ◌∙◌, append_assoc}
use Rattle.std.specs.Prelude.{◌==◌, ◌||◌, ◌&&◌, not, is_none}
use Rattle.std.specs.List.{filter, flat_map}
use Rattle.std.specs.Option.{option_or}
use Rattle.wire_msgs.specs.declared.response.Response.{Response}
use Rattle.session_spec.specs.Sessions.{Reply, Refusal, Single, Rows, Kind, Opening, Configuring, Writing, Committing, Querying, Flight, Session, Gateway, absent, fresh, in_tx, is_busy, is_due, responses_of}
use Rattle.session_spec.specs.Causes.{LeadershipLost}
use Rattle.session_spec.specs.Events.{tidy, landed, settled_by, on_applied, landed_reply, told_to, told_by, told_applied, still_lent, commits, is_committing, lost, on_lost, ordered, last_of, waits, told_lost, left, on_hangup, connects, connected}
use Rattle.session_spec.specs.Requests.{with_tx, with_flight, with_later, with_lost, with_session, without_later}
use Rattle.session_table.specs.Sweeping.{told_in, all_told}
use Rattle.session_gateway.specs.Later.{first_due_in, first_due}
use Rattle.client_sessions.specs.Clients.{Clients, joining, offered_on, offer_of, next_offer}
use Rattle.node_core.specs.Plain.{plain_reply, plain_kind, plain_flight, plain_session, plain_gate}

-- ---- one session

responses_plain : (r : Reply) → responses_of (plain_reply r) ≡ responses_of r
responses_plain (Refusal cause) = refl
responses_plain (Single response) = refl
responses_plain (Rows answer) = refl

none_plain : (o : Option Flight) → is_none (plain_flight o) ≡ is_none o
none_plain None = refl
none_plain (Some f) = refl

last_plain : (o : Option Flight) → last_of (plain_flight o) ≡ last_of o
last_plain None = refl
last_plain (Some f) = refl

busy_plain : (s : Session) → is_busy (plain_session s) ≡ is_busy s
busy_plain s = ap (λ (b : Bool). not b || not (is_none s.later)) (none_plain s.flight)

-- a proposal without the number of a transaction
abbrev plain_one : Flight → Flight
plain_one f = record { name = f.name; first = f.first; last = f.last; term = f.term; pages = f.pages; kind = plain_kind f.kind }

landed_plain : (s : Session) (f : Flight) (k : Kind) → landed (plain_session s) (plain_one f) (plain_kind k) ≡ plain_session (landed s f k)
landed_plain s f Opening = refl
landed_plain s f (Configuring short) = refl
landed_plain s f (Writing reply) = refl
landed_plain s f Committing = refl
landed_plain s f (Querying statement) = refl

settled_plain : (index : ℕ) (s : Session) (o : Option Flight) → settled_by index (plain_session s) (plain_flight o) ≡ plain_session (settled_by index s o)
settled_plain index s None = refl
settled_plain index s (Some f) = at (f.last == index) s.hung
  where
    at : (b h : Bool) → cond b (cond h absent (landed (plain_session s) (plain_one f) (plain_kind f.kind))) (plain_session s) ≡ plain_session (cond b (cond h absent (landed s f f.kind)) s)
    at true true = refl
    at true false = landed_plain s f f.kind
    at false h = refl

commits_plain : (k : Kind) → commits (plain_kind k) ≡ commits k
commits_plain Opening = refl
commits_plain (Configuring short) = refl
commits_plain (Writing reply) = refl
commits_plain Committing = refl
commits_plain (Querying statement) = refl

committing_plain : (o : Option Flight) → is_committing (plain_flight o) ≡ is_committing o
committing_plain None = refl
committing_plain (Some f) = commits_plain f.kind

lost_plain : (s : Session) → lost (plain_session s) ≡ plain_session (lost s)
lost_plain s = at s.hung
  where
    -- a session whose proposal and transaction end, the transaction lost or not
    over : Bool → Session
    over commits_now = with_lost (with_later (with_flight (with_tx (plain_session (record s { hung = false })) None) None) (still_lent s.later)) (s.lost || (in_tx s && not commits_now))

    at : (h : Bool) → lost (plain_session (record s { hung = h })) ≡ plain_session (lost (record s { hung = h }))
    at true = refl
    at false = ap over (committing_plain s.flight)

left_plain : (s : Session) (o : Option Flight) → left (plain_session s) (plain_flight o) ≡ plain_session (left s o)
left_plain s None = refl
left_plain s (Some f) = refl

waits_plain : (s : Session) → waits (plain_session s) ≡ waits s
waits_plain s = ap (λ (b : Bool). not s.hung && (not b || is_due s.later)) (none_plain s.flight)

-- ---- all sessions

-- other sessions, of which those that are there are searched
tidy_plain : (g : Gateway) (one other : ℕ → Session) → ((conn : ℕ) → other conn ≡ plain_session (one conn)) → plain_gate (tidy g one) ≡ tidy (plain_gate g) other
unfolding tidy
tidy_plain g one other same = λ i. record { conns = filter (λ (conn : ℕ). (sym (same conn) i).there) g.conns; session = λ conn. sym (same conn) i; weight = g.weight }

pub applied_plain : (index : ℕ) (g : Gateway) → plain_gate (on_applied index g) ≡ on_applied index (plain_gate g)
unfolding on_applied
applied_plain index g =
    tidy_plain g (λ conn. settled_by index (g.session conn) (g.session conn).flight) (λ conn. settled_by index (plain_session (g.session conn)) (plain_flight (g.session conn).flight))
    (λ conn. settled_plain index (g.session conn) (g.session conn).flight)

pub lost_gate_plain : (g : Gateway) → plain_gate (on_lost g) ≡ on_lost (plain_gate g)
unfolding on_lost
lost_gate_plain g = tidy_plain g (λ conn. lost (g.session conn)) (λ conn. lost (plain_session (g.session conn))) (λ conn. lost_plain (g.session conn))

pub hangup_plain : (g : Gateway) (conn : ℕ) → plain_gate (on_hangup g conn) ≡ on_hangup (plain_gate g) conn
unfolding on_hangup
hangup_plain g conn =
    tidy_plain g (λ other. cond (other == conn) (left (g.session conn) (g.session conn).flight) (g.session other))
    (λ other. cond (other == conn) (left (plain_session (g.session conn)) (plain_flight (g.session conn).flight)) (plain_session (g.session other)))
    (λ other. at other (other == conn))
  where
    at : (other : ℕ) (b : Bool) → cond b (left (plain_session (g.session conn)) (plain_flight (g.session conn).flight)) (plain_session (g.session other)) ≡ plain_session (cond b (left (g.session conn) (g.session conn).flight) (g.session other))
    at other true = left_plain (g.session conn) (g.session conn).flight
    at other false = refl

pub connected_plain : (g : Gateway) (conn : ℕ) → plain_gate (connected g conn) ≡ connected (plain_gate g) conn
unfolding connected
connected_plain g conn = λ i. record { conns = g.conns ++ conn ∷ []; session = λ other. at other (other == conn) i; weight = g.weight }
  where
    at : (other : ℕ) (b : Bool) → plain_session (cond b fresh (g.session other)) ≡ cond b fresh (plain_session (g.session other))
    at other true = refl
    at other false = refl

pub joining_plain : (g : Gateway) (conn : ℕ) → joining (plain_gate g) conn ≡ joining g conn
unfolding joining connects
joining_plain g conn = refl

pub with_plain : (g : Gateway) (conn : ℕ) (s : Session) → plain_gate (with_session g conn s) ≡ with_session (plain_gate g) conn (plain_session s)
unfolding with_session
with_plain g conn s = λ i. record { conns = g.conns; session = λ other. at other (other == conn) i; weight = g.weight }
  where
    at : (other : ℕ) (b : Bool) → plain_session (cond b s (g.session other)) ≡ cond b (plain_session s) (plain_session (g.session other))
    at other true = refl
    at other false = refl

pub without_plain : (g : Gateway) (conn : ℕ) → plain_gate (without_later g conn) ≡ without_later (plain_gate g) conn
without_plain g conn = with_plain g conn (with_later (g.session conn) None)

-- ---- what is reported

told_reply : (conn : ℕ) (r : Reply) → told_in (conn, plain_reply r) ≡ told_in (conn, r)
told_reply conn r = ap (λ (rs : List Response). map (λ (response : Response). (conn, response)) rs) (responses_plain r)

-- what is reported, as responses
abbrev told_as : List (ℕ × Reply) → List (ℕ × Response)
told_as replies = all_told replies

told_kind : (conn : ℕ) (k : Kind) → told_as (told_to conn (landed_reply (plain_kind k))) ≡ told_as (told_to conn (landed_reply k))
told_kind conn Opening = refl
told_kind conn (Configuring short) = refl
told_kind conn (Writing reply) = ap (λ (rs : List (ℕ × Response)). rs ++ []) (told_reply conn reply)
told_kind conn Committing = refl
told_kind conn (Querying statement) = refl

told_one : (index conn : ℕ) (s : Session) (o : Option Flight) → told_as (told_by index conn (plain_session s) (plain_flight o)) ≡ told_as (told_by index conn s o)
told_one index conn s None = refl
told_one index conn s (Some f) = at (f.last == index) s.hung
  where
    at : (b h : Bool) → told_as (cond b (cond h [] (told_to conn (landed_reply (plain_kind f.kind)))) []) ≡ told_as (cond b (cond h [] (told_to conn (landed_reply f.kind))) [])
    at true true = refl
    at true false = told_kind conn f.kind
    at false h = refl

told_append : (xs ys : List (ℕ × Reply)) → told_as (xs ++ ys) ≡ told_as xs ++ told_as ys
told_append [] ys = refl
told_append (x ∷ xs) ys = ap (λ (rs : List (ℕ × Response)). told_in x ++ rs) (told_append xs ys) ∙ sym (append_assoc (told_in x) (told_as xs) (told_as ys))

told_all : (one other : ℕ → List (ℕ × Reply)) (conns : List ℕ) → ((conn : ℕ) → told_as (one conn) ≡ told_as (other conn)) → told_as (flat_map one conns) ≡ told_as (flat_map other conns)
told_all one other [] same = refl
told_all one other (conn ∷ conns) same =
    told_append (one conn) (flat_map one conns)
    ∙ (λ i. same conn i ++ told_all one other conns same i)
    ∙ sym (told_append (other conn) (flat_map other conns))

pub told_plain : (index : ℕ) (g : Gateway) → all_told (told_applied index (plain_gate g)) ≡ all_told (told_applied index g)
unfolding told_applied
told_plain index g =
    told_all (λ conn. told_by index conn (plain_session (g.session conn)) (plain_flight (g.session conn).flight)) (λ conn. told_by index conn (g.session conn) (g.session conn).flight) g.conns
    (λ conn. told_one index conn (g.session conn) (g.session conn).flight)

pub told_lost_plain : (g : Gateway) → told_lost (plain_gate g) ≡ told_lost g
unfolding told_lost
told_lost_plain g =
    λ i. map (λ (conn : ℕ). (conn, Refusal LeadershipLost)) (ordered (λ (conn : ℕ). last_plain (g.session conn).flight i) (filter (λ (conn : ℕ). waits_plain (g.session conn) i) g.conns))

-- ---- whose turn it is

due_in_plain : (g : Gateway) (conns : List ℕ) → first_due_in (plain_gate g) conns ≡ first_due_in g conns
due_in_plain g [] = refl
due_in_plain g (conn ∷ conns) = ap (λ (o : Option ℕ). cond (is_due (g.session conn).later) (Some conn) o) (due_in_plain g conns)

pub due_plain : (g : Gateway) → first_due (plain_gate g) ≡ first_due g
due_plain g = due_in_plain g g.conns

-- the clients without the numbers
abbrev pub plain_clients : Clients → Clients
plain_clients k = record { sessions = plain_gate k.sessions; streams = k.streams; turns = k.turns }

offer_plain : (k : Clients) (turns : List ℕ) → offer_of (plain_clients k) turns ≡ offer_of k turns
offer_plain k [] = refl
offer_plain k (conn ∷ turns) =
    λ i. option_or (offered_on conn turns (busy_plain (k.sessions.session conn) i) (k.streams conn)) (offer_plain k turns i)

pub next_plain : (k : Clients) → next_offer (plain_clients k) ≡ next_offer k
unfolding next_offer
next_plain k = offer_plain k k.turns
