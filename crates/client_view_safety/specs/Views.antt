-- What a client knows of its connection is what its session has.
use Rattle.std.specs.Prelude.{◌≡◌, ◌⊎◌, ℕ, Bool, true, false, not, List, [], ◌∷◌, Some}
use Rattle.wire_msgs.specs.declared.request.Request.{Request}
use Rattle.wire_msgs.specs.declared.response.Response.{Response}
use Rattle.wire_msgs.specs.declared.response.Response.TheVariants as responses
use Rattle.session_spec.specs.Asking.{Asked, Never, Tells, Sets, Opens, Creates, Prepares, Drops, Forgets, Begins, Commits, RollsBack, Changes, Runs, Reads, asked, files_of}
use Rattle.session_spec.specs.Causes.{NotLeader, failure}
use Rattle.session_spec.specs.Engines.{Answer}
use Rattle.session_spec.specs.Events.{landed}
use Rattle.session_spec.specs.Laws.{IsRefusal}
use Rattle.session_spec.specs.Machine.{Machine}
use Rattle.session_spec.specs.Requests.{on_request}
use Rattle.session_spec.specs.Sessions.{Reply, Refusal, Single, Rows, Kind, Opening, Configuring, Writing, Committing, Querying, Flight, Session, Gateway, View, in_tx, Turned, Refused, Lacks, Answers, Proposes, Lends, Affects}
use Rattle.session_spec.specs.Statements.{prepared_at}
use Rattle.session_safety.specs.Staying.{has_transaction}
use Rattle.headline.specs.Clients.{Client, Idle, Begun, Lost, is_idle, Purpose, purpose, after_result, after_refusal}
use Rattle.headline.specs.Clients as client

-- the client has heard that its transaction was lost, and hasn't ended it since
abbrev pub is_lost : client.Transaction → Bool
is_lost Idle = false
is_lost (Begun begin last) = false
is_lost Lost = true

-- The client knows the session: the database, barrier reads, the statement of each number, and whether it has a transaction. This is open, or was lost with
-- leadership, of which the client may hear later.
pub record KnowsSession (k : Client) (s : Session) : Type 0 where
  pub name : k.name ≡ s.database
  pub barriers : k.barriers ≡ s.barriers
  pub prepared : (id : ℕ) → k.prepared id ≡ prepared_at s.statements id
  pub idle : is_idle k.transaction ≡ not (has_transaction s)
  pub lost : is_lost k.transaction ≡ true → s.lost ≡ true
  pub closed : s.lost ≡ true → in_tx s ≡ false

-- A response at once: EMPTY if that is what the message asks for, the files of a database, or a response that is not about a database.
abbrev pub IsToldFor : Machine → Purpose → Response → Type 0
IsToldFor m p response = (p ≡ client.Other) ⊎ (((p ≡ client.Empties) × (response ≡ responses.Empty)) ⊎
    ((name : List ℕ) × (p ≡ client.Dumps name) × (response ≡ files_of name (m.base name).image)))

-- A lost transaction ends: by COMMIT, which is refused by `not leader`, or by ROLLBACK, which gets a RESULT.
abbrev pub IsEndFor : Purpose → Response → Type 0
IsEndFor p response = ((p ≡ client.Commits) × (response ≡ failure NotLeader)) ⊎ ((p ≡ client.RollsBack) × (response ≡ responses.Result 0 0))

-- The node does for a message what the message asks for, or refuses it.
abbrev pub IsAskedFor : Machine → Purpose → Asked → Type 0
IsAskedFor m p (Never cause) = Unit {0}
IsAskedFor m p (Tells response) = IsToldFor m p response
IsAskedFor m p (Sets effect) = p ≡ client.Empties
IsAskedFor m p (Opens name barriers) = p ≡ client.Opens name barriers
IsAskedFor m p (Creates name barriers) = p ≡ client.Opens name barriers
IsAskedFor m p (Prepares prepared tail) = p ≡ client.Prepares prepared tail
IsAskedFor m p (Drops id) = p ≡ client.Drops id
IsAskedFor m p (Forgets response) = IsEndFor p response
IsAskedFor m p (Begins at_once) = p ≡ client.Begins
IsAskedFor m p Commits = p ≡ client.Commits
IsAskedFor m p RollsBack = p ≡ client.RollsBack
IsAskedFor m p (Changes servers short) = p ≡ client.Empties
IsAskedFor m p (Runs statements) = p ≡ client.Runs false statements
IsAskedFor m p (Reads statement) = p ≡ client.Runs true (statement ∷ [])

abbrev pub RequestsAskPurposes : Type 0
RequestsAskPurposes = (v : View) (m : Machine) (g : Gateway) (conn : ℕ) (k : Client) (request : Request) → KnowsSession k (g.session conn) →
    IsAskedFor m (purpose k (Some request)) (asked v m g conn request)

-- a single response is sent as it is
abbrev pub IsSentFor : Reply → List Response → Type 0
IsSentFor (Refusal cause) answer = Unit {0}
IsSentFor (Single response) answer = answer ≡ response ∷ []
IsSentFor (Rows answer) sent = Unit {0}

-- The client knows what a session becomes when the last entry of its proposal is applied, except if this is the barrier of a query, which is answered later.
abbrev pub KnowsLanded : Client → Session → Flight → Kind → Type 0
KnowsLanded k s f Opening = KnowsSession k (landed s f Opening)
KnowsLanded k s f (Configuring short) = KnowsSession k (landed s f (Configuring short))
KnowsLanded k s f (Writing reply) = KnowsSession k (landed s f (Writing reply))
KnowsLanded k s f Committing = KnowsSession k (landed s f Committing)
KnowsLanded k s f (Querying statement) = Unit {0}

-- After an answer the client knows the session that is left: at once, or when the last entry of its proposal is applied. An answer at once
-- is a result, or the refusal of the COMMIT of a lost transaction, which reports the loss.
abbrev pub KnowsAfter : Client → ℕ → Purpose → Turned → Type 0
KnowsAfter k place p (Refused cause) = Unit {0}
KnowsAfter k place p Lacks = Unit {0}
KnowsAfter k place p (Answers session reply note) = ((answer : List Response) → IsSentFor reply answer → KnowsSession (after_result k place answer p) session) ×
    (IsRefusal reply → KnowsSession (after_refusal true k p) session)
KnowsAfter k place p (Proposes session contents note) = (f : Flight) → session.flight ≡ Some f → (answer : List Response) →
    KnowsLanded (after_result k place answer p) session f f.kind
KnowsAfter k place p (Lends session job) = Unit {0}
KnowsAfter k place p (Affects effect) = Unit {0}

abbrev pub AnswersKeepViews : Type 0
AnswersKeepViews = (v : View) (m : Machine) (g : Gateway) (conn place : ℕ) (k : Client) (request : Request) (answers : List Answer) →
    KnowsSession k (g.session conn) → KnowsAfter k place (purpose k (Some request)) (on_request v m g conn request answers)
