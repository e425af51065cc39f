-- If no transaction is open, none begins while the node doesn't serve.
use Rattle.std.proofs.Common.{◌≡◌, ℕ, true, false, true≢false, cond, List, Option, Some, None, Result, Ok, Err, IfOk, OnErr, refl, sym, subst, ◌∙◌}
use Rattle.std.specs.Prelude.{◌==◌, is_none}
use Rattle.std.proofs.lemmas.Bool.{cond_both}
use Rattle.std.specs.declared.alloc.AllocError.{AllocError}
use Rattle.client_connection.specs.Connection.{Conn}
use Rattle.wire_msgs.specs.declared.request.Request.{Request}
use Rattle.sql_engine.specs.declared.kind.EngineKind.{EngineKind}
use Rattle.sql_engine.specs.Meanings.{Meaning, Told}
use Rattle.sql_engine.specs.Replies.{Statement}
use Rattle.session_spec.specs.Allowed.{IsAllowed}
use Rattle.session_spec.specs.Asking.{Asked, Never, Tells, Sets, Opens, Creates, Prepares, Drops, Forgets, Begins, Commits, RollsBack, Changes, Runs, Reads, asked}
use Rattle.session_spec.specs.Causes.{NotLeader}
use Rattle.session_spec.specs.Engines.{Answer}
use Rattle.session_spec.specs.Events.{tidy, landed, settled_by, on_applied, left, on_hangup, connected}
use Rattle.session_spec.specs.Machine.{Machine}
use Rattle.session_spec.specs.Requests.{does, on_request, on_later, with_session, without_later, with_later}
use Rattle.session_spec.specs.Sessions.{Kind, Opening, Configuring, Writing, Committing, Querying, Flight, Reply, Session, Gateway, View, HandsOver, JoinsPeer, Weighs, Turned, Refused, Lacks, Answers, Proposes, Lends, Affects, absent, fresh}
use Rattle.session_spec.proofs.Asked.{all_allowed}
use Rattle.session_gateway.specs.declared.act.Act.{Act}
use Rattle.session_gateway.specs.Calls.{Is, TurnsByAnswers}
use Rattle.session_gateway.specs.Later.{RunsWaitingByAnswers, ReadDone, Resumed}
use Rattle.session_gateway.specs.Seen.{seen}
use Rattle.database_state.specs.declared.database.Database.{Database}
use Rattle.wire_words.specs.declared.message.Message.{Message}
use Rattle.client_sessions.specs.declared.clients.Clients.{Clients as Held}
use Rattle.client_sessions.specs.Calls.{TookNext}
use Rattle.client_sessions.specs.Seen.{clients_of}
use Rattle.client_sessions.specs.declared.connect_result.ConnectResult.{ConnectResult}
use Rattle.client_sessions.specs.declared.connect_result.ConnectResult.TheVariants.{Joined, Full, Taken}
use Rattle.client_sessions.specs.Clients.{Clients, NoneIsOpen, HasNoTransactions, joining, joined_as, joined, without, hung_up, closing, closed, heard_on, heard}
use Rattle.session_statements.specs.Calls.{call_of}
use Rattle.session_outcomes.specs.Scenes.{scene}

-- ---- what comes of a request, and of a query that is run later

abbrev StaysClosed : Turned → Type 0
StaysClosed (Refused cause) = Unit {0}
StaysClosed Lacks = Unit {0}
StaysClosed (Answers s reply note) = s.tx ≡ None
StaysClosed (Proposes s contents note) = s.tx ≡ None
StaysClosed (Lends s job) = s.tx ≡ None
StaysClosed (Affects effect) = Unit {0}

module _ (v : View) (m : Machine) (g : Gateway) (conn : ℕ) (idle : v.serving ≡ false) where
  serves_not : {P : Type 0} → v.serving ≡ true → P
  serves_not serves = absurd (true≢false (sym serves ∙ idle))

  -- whatever begins a transaction, or changes one, is asked of a leader that serves
  does_closed : (s : Session) (request : Request) (asks : Asked) (answers : List Answer) → s.tx ≡ None → IsAllowed v g s request asks → StaysClosed (does v m g conn s asks answers)
  unfolding does
  does_closed s request (Never cause) answers none a = tt
  does_closed s request (Tells response) answers none a = none
  does_closed s request (Sets effect) answers none a = tt
  does_closed s request (Opens name barriers) answers none a = serves_not a.0
  does_closed s request (Creates name barriers) answers none a = serves_not a.0
  does_closed s request (Prepares p tail) answers none a = serves_not a.serves
  does_closed s request (Drops id) answers none a = none
  does_closed s request (Forgets response) answers none a = none
  does_closed s request (Begins at_once) answers none a = serves_not a.0.serves
  does_closed s request Commits answers none a = serves_not a.0.serves
  does_closed s request RollsBack answers none a = serves_not a.0.serves
  does_closed s request (Changes servers short) answers none a = serves_not a.0
  does_closed s request (Runs ss) answers none a = serves_not a.serves
  does_closed s request (Reads statement) answers none a = serves_not a.serves

  request_closed : (request : Request) (answers : List Answer) → NoneIsOpen g → StaysClosed (on_request v m g conn request answers)
  unfolding on_request
  request_closed request answers none = does_closed (g.session conn) request (asked v m g conn request) answers (none conn) (all_allowed v m g conn (g.session conn) request)

  later_closed : (statement : Statement) (answers : List Answer) → StaysClosed (on_later v m g conn statement answers)
  unfolding on_later
  later_closed statement answers = cond_both v.serving _ (Refused NotLeader) StaysClosed serves_not (λ e. tt)

-- ---- the sessions after it

set_closed : (g : Gateway) (conn : ℕ) (s : Session) → NoneIsOpen g → s.tx ≡ None → NoneIsOpen (with_session g conn s)
unfolding with_session
set_closed g conn s none closed = λ other. cond_both (other == conn) s (g.session other) (λ (t : Session). t.tx ≡ None) (λ e. closed) (λ e. none other)

same_closed : (now then : Gateway) → now ≡ then → NoneIsOpen then → NoneIsOpen now
same_closed now then is none = subst NoneIsOpen (sym is) none

is_closed : (v : View) (g : Gateway) (conn : ℕ) (turned : Turned) (now : Gateway) (act : Act) → Is v g conn turned now act → StaysClosed turned → NoneIsOpen g → NoneIsOpen now
is_closed v g conn (Refused cause) now act is stays none = same_closed now g is.0 none
is_closed v g conn Lacks now act is stays none = absurd is
is_closed v g conn (Answers s reply note) now act is stays none = same_closed now _ is.0 (set_closed g conn s none stays)
is_closed v g conn (Proposes s contents note) now act is stays none = same_closed now _ is.0 (set_closed g conn s none stays)
is_closed v g conn (Lends s job) now act is stays none = same_closed now _ is.0 (set_closed g conn s none stays)
is_closed v g conn (Affects (HandsOver id)) now act is stays none = same_closed now g is.0 none
is_closed v g conn (Affects (JoinsPeer id)) now act is stays none = same_closed now g is.0 none
is_closed v g conn (Affects (Weighs weight)) now act is stays none = same_closed now _ is.0 none

module _ (m : Meaning) (kind : EngineKind) (v : View) (machine : Machine) (g : Gateway) (conn : ℕ) (before now : Option Told) (after : Gateway) (idle : v.serving ≡ false) (none : NoneIsOpen g) where
  turned_closed : (request : Request) (act : Act) → TurnsByAnswers (call_of m kind before now) (scene v machine g conn) request after act → NoneIsOpen after
  turned_closed request act t = is_closed v g conn _ after act t.is (request_closed v machine g conn idle request t.answers none) none

  pub answered_closed : (request : Request) (r : Result Act AllocError) → IfOk r (TurnsByAnswers (call_of m kind before now) (scene v machine g conn) request after) → OnErr r (after ≡ g) → NoneIsOpen after
  answered_closed request (Ok act) t failed = turned_closed request act t
  answered_closed request (Err e) t failed = same_closed after g failed none

  later_stays : (statement : Statement) (act : Act) → RunsWaitingByAnswers (call_of m kind before now) (scene v machine (without_later g conn) conn) statement after act → NoneIsOpen after
  later_stays statement act r =
      is_closed v (without_later g conn) conn _ after act r.is (later_closed v machine (without_later g conn) conn idle statement r.answers)
      (set_closed g conn (with_later (g.session conn) None) none (none conn))

  resumed_where : (query : Option Statement) (act : Option Act) → Resumed (call_of m kind before now) (scene v machine g conn) query after act → NoneIsOpen after
  resumed_where None None r = same_closed after g r.0 none
  resumed_where None (Some act) r = absurd r
  resumed_where (Some statement) None r = absurd r
  resumed_where (Some statement) (Some act) r = later_stays statement act r

  pub resumed_closed : (query : Option Statement) (r : Result (Option Act) AllocError) → IfOk r (Resumed (call_of m kind before now) (scene v machine g conn) query after) → OnErr r (after ≡ g) → NoneIsOpen after
  resumed_closed query (Ok act) r failed = resumed_where query act r
  resumed_closed query (Err e) r failed = same_closed after g failed none

-- ---- a query that a reader is done with

done_where : (g : Gateway) (conn : ℕ) (query : Option Statement) (reply : Option Reply) (after : Gateway) (act : Option Act) → NoneIsOpen g → ReadDone g conn query reply after act → NoneIsOpen after
done_where g conn None reply after act none r = same_closed after g r.0 none
done_where g conn (Some statement) None after act none r = same_closed after g r.0 none
done_where g conn (Some statement) (Some reply) after act none r = same_closed after _ r.0 (set_closed g conn (with_later (g.session conn) None) none (none conn))

pub done_closed : (g after : List Database → Gateway) (conn : ℕ) (query : List Database → Option Statement) (reply : Option Reply) (r : Result (Option Act) AllocError)
    → IfOk r (λ act. (databases : List Database) → ReadDone (g databases) conn (query databases) reply (after databases) act) → OnErr r ((databases : List Database) → after databases ≡ g databases)
    → (databases : List Database) → NoneIsOpen (g databases) → NoneIsOpen (after databases)
done_closed g after conn query reply (Ok act) done failed databases none = done_where (g databases) conn (query databases) reply (after databases) act none (done databases)
done_closed g after conn query reply (Err e) done failed databases none = same_closed (after databases) (g databases) (failed databases) none

-- ---- over what code holds

pub none_held : (old new : Held) (before after : List Database) → (NoneIsOpen (seen old.gateway before) → NoneIsOpen (seen new.gateway after)) → HasNoTransactions (clients_of old before) → HasNoTransactions (clients_of new after)
unfolding clients_of
none_held old new before after stays none = stays none

pub took_closed : (k mid : Clients) (took : Option (ℕ × Message)) → TookNext k mid took → HasNoTransactions k → HasNoTransactions mid
took_closed k mid None t none = subst HasNoTransactions (sym t.1) none
took_closed k mid (Some took) t none = subst HasNoTransactions (sym t.4) none

-- ---- all clients

joined_where : (k : Clients) (conn : ℕ) (how : ConnectResult) → HasNoTransactions k → HasNoTransactions (joined_as k conn how)
unfolding connected
joined_where k conn Joined none = λ other. cond_both (other == conn) fresh (k.sessions.session other) (λ (s : Session). s.tx ≡ None) (λ e. refl) (λ e. none other)
joined_where k conn Full none = none
joined_where k conn Taken none = none

pub joined_closed : (k : Clients) (conn : ℕ) → HasNoTransactions k → HasNoTransactions (joined k conn)
joined_closed k conn none = joined_where k conn (joining k.sessions conn) none

heard_where : (k : Clients) (conn : ℕ) (bytes : List ℕ) (stream : Option Conn) → HasNoTransactions k → HasNoTransactions (heard_on k conn bytes stream)
heard_where k conn bytes None none = none
heard_where k conn bytes (Some stream) none = none

pub heard_closed : (k : Clients) (conn : ℕ) (bytes : List ℕ) → HasNoTransactions k → HasNoTransactions (heard k conn bytes)
unfolding heard
heard_closed k conn bytes none = heard_where k conn bytes (k.streams conn) none

left_closed : (s : Session) (flight : Option Flight) → s.tx ≡ None → (left s flight).tx ≡ None
left_closed s None none = refl
left_closed s (Some f) none = none

without_closed : (k : Clients) (conn : ℕ) → HasNoTransactions k → HasNoTransactions (without k conn)
unfolding on_hangup tidy
without_closed k conn none = λ other.
    cond_both (other == conn) (left (k.sessions.session conn) (k.sessions.session conn).flight) (k.sessions.session other) (λ (s : Session). s.tx ≡ None)
    (λ e. left_closed (k.sessions.session conn) (k.sessions.session conn).flight (none conn)) (λ e. none other)

pub hung_closed : (k : Clients) (conn : ℕ) → HasNoTransactions k → HasNoTransactions (hung_up k conn)
unfolding hung_up
hung_closed k conn none = cond_both (is_none (k.streams conn)) k (without k conn) HasNoTransactions (λ e. none) (λ e. without_closed k conn none)

pub closed_closed : (k : Clients) (conn : ℕ) → HasNoTransactions k → HasNoTransactions (closed k conn)
unfolding closed
closed_closed k conn none = cond_both (is_none (closing (k.streams conn))) k (without k conn) HasNoTransactions (λ e. none) (λ e. without_closed k conn none)

landed_closed : (s : Session) (f : Flight) (kind : Kind) → s.tx ≡ None → (landed s f kind).tx ≡ None
landed_closed s f Opening none = none
landed_closed s f (Configuring short) none = none
landed_closed s f (Writing reply) none = none
landed_closed s f Committing none = refl
landed_closed s f (Querying statement) none = none

settled_closed : (index : ℕ) (s : Session) (flight : Option Flight) → s.tx ≡ None → (settled_by index s flight).tx ≡ None
settled_closed index s None none = none
settled_closed index s (Some f) none =
    cond_both (f.last == index) (cond s.hung absent (landed s f f.kind)) s (λ (t : Session). t.tx ≡ None)
    (λ e. cond_both s.hung absent (landed s f f.kind) (λ (t : Session). t.tx ≡ None) (λ h. refl) (λ h. landed_closed s f f.kind none)) (λ e. none)

pub applied_closed : (index : ℕ) (g : Gateway) → NoneIsOpen g → NoneIsOpen (on_applied index g)
unfolding on_applied tidy
applied_closed index g none = λ conn. settled_closed index (g.session conn) (g.session conn).flight (none conn)
