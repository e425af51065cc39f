-- A query that is run later than it was asked, and what a reader says of one.
use Rattle.std.proofs.Common.{◌≡◌, ℕ, Bool, true, false, true≢false, cond, not, ◌||◌, List, Option, Some, None, is_none, refl, sym, ap, subst, ◌∙◌}
use Rattle.std.specs.Prelude.{nat_lt, length, IsSome}
use Rattle.std.proofs.lemmas.Bool.{eq-eqb}
use Rattle.client_connection.specs.Connection.{Conn}
use Rattle.sql_engine.specs.declared.kind.EngineKind.{EngineKind}
use Rattle.sql_engine.specs.Meanings.{Meaning, Told}
use Rattle.sql_engine.specs.Replies.{Statement}
use Rattle.session_spec.specs.Asking.{has_database}
use Rattle.session_spec.specs.Machine.{Machine}
use Rattle.session_spec.specs.Requests.{on_later, with_session, with_later, without_later}
use Rattle.session_spec.specs.Sessions.{Reply, responses_of, Flight, Later, Session, Gateway, View, is_flying, later_query, lent_query}
use Rattle.session_spec.specs.Touched.{IsListed}
use Rattle.session_gateway.specs.declared.act.Act.{Act as GatewayAct}
use Rattle.session_gateway.specs.declared.act.Act.TheVariants as gateway
use Rattle.session_gateway.specs.Later.{RunsWaitingByAnswers, ReadDone, Resumed}
use Rattle.session_gateway.specs.Seen.{ListsAsBefore}
use Rattle.client_sessions.specs.Clients.{Clients, with_sessions, Fits, Awaits, Sound}
use Rattle.client_sessions.specs.Sending.{ActCanSend}
use Rattle.client_sessions.proofs.Asking.{is_sends, is_sound, failed_sound}
use Rattle.client_sessions.proofs.Requests.{Keeps, rests, later_kept}
use Rattle.client_sessions.proofs.Soundness.{session_sound}
use Rattle.client_sessions.proofs.Writable.{ToldCanSend}
use Rattle.session_statements.specs.Calls.{call_of}
use Rattle.session_outcomes.specs.Scenes.{scene}

-- ---- a session that has yet to answer a query

abbrev HasOpened : Session → Type 0
HasOpened s = nat_lt 0 (length s.database) ≡ true

later_only : (database : List ℕ) (flight : Option Flight) (later : Later) → Awaits database flight (Some later) → (flight ≡ None) × (nat_lt 0 (length database) ≡ true)
later_only database None later awaits = (refl, awaits)
later_only database (Some f) later awaits = absurd awaits

-- it waits for nothing else, and has opened its database
later_alone : (s : Session) (later : Later) → s.later ≡ Some later → Awaits s.database s.flight s.later → (s.flight ≡ None) × HasOpened s
later_alone s later is awaits = later_only s.database s.flight later (subst (λ (l : Option Later). Awaits s.database s.flight l) is awaits)

opened_where : (s : Session) (later : Option Later) → s.later ≡ later → Awaits s.database s.flight s.later → IsSome later → has_database s ≡ true
opened_where s None is awaits some = absurd cc
opened_where s (Some later) is awaits some = (later_alone s later is awaits).1

pub later_opened : (s : Session) → Awaits s.database s.flight s.later → IsSome s.later → has_database s ≡ true
later_opened s awaits some = opened_where s s.later refl awaits some

busy_later : {L : Type 0} (flying : Bool) (o : Option L) (l : L) → o ≡ Some l → (flying || not (is_none o)) ≡ true
busy_later true o l e = refl
busy_later false (Some x) l e = refl
busy_later false None l e = absurd cc

-- its connection is open
later_open : (stream : Option Conn) (s : Session) (later : Later) → s.later ≡ Some later → Awaits s.database s.flight s.later → Fits stream s → (c : Conn) × (stream ≡ Some c)
later_open (Some c) s later is awaits fits = (c, refl)
later_open None s later is awaits fits =
    let free : is_flying s ≡ false = ap (λ (o : Option Flight). not (is_none o)) (later_alone s later is awaits).0 in
    let flying : is_flying s ≡ true = (fits.0 (fits.1 (busy_later (is_flying s) s.later later is))).1 in
    absurd (true≢false (sym flying ∙ free))

-- ---- the session without it

here : (g : Gateway) (conn : ℕ) → (without_later g conn).session conn ≡ with_later (g.session conn) None
unfolding with_session
here g conn = ap (λ (b : Bool). cond b (with_later (g.session conn) None) (g.session conn)) (eq-eqb conn conn refl)

undue_sound : (k : Clients) (conn : ℕ) (later : Later) → (k.sessions.session conn).later ≡ Some later → Sound k → Sound (with_sessions k (without_later k.sessions conn))
undue_sound k conn later is sound =
    let s = k.sessions.session conn in
    let opens = later_open (k.streams conn) s later is (sound.awaits conn) (sound.fits conn) in
    session_sound k conn opens.0 (with_later s None) opens.1 (rests s _ refl refl (later_alone s later is (sound.awaits conn)).0 refl) (sound.listed conn) sound

-- ---- a query that is run

has_later : (later : Option Later) (statement : Statement) → later_query later ≡ Some statement → (l : Later) × (later ≡ Some l)
has_later None statement is = absurd cc
has_later (Some l) statement is = (l, refl)

module _ (m : Meaning) (kind : EngineKind) (v : View) (machine : Machine) (g : Gateway) (conn : ℕ) (before now : Option Told) (after : Gateway) where
  later_keeps : (statement : Statement) (later : Later) (act : GatewayAct) → (g.session conn).later ≡ Some later → Awaits (g.session conn).database (g.session conn).flight (g.session conn).later
      → (r : RunsWaitingByAnswers (call_of m kind before now) (scene v machine (without_later g conn) conn) statement after act) → Keeps ((without_later g conn).session conn) (on_later v machine (without_later g conn) conn statement r.answers)
  later_keeps statement later act is awaits r =
      later_kept v machine (without_later g conn) conn statement r.answers
      (ap (λ (s : Session). s.flight) (here g conn) ∙ (later_alone (g.session conn) later is awaits).0)
      (ap (λ (s : Session). s.later) (here g conn))

  -- its outcome can be sent
  pub resumed_sends : (query : Option Statement) (given : Option GatewayAct) (act : GatewayAct) → given ≡ Some act → later_query (g.session conn).later ≡ query → Awaits (g.session conn).database (g.session conn).flight (g.session conn).later
      → Resumed (call_of m kind before now) (scene v machine g conn) query after given → ActCanSend act
  resumed_sends None None act some is awaits r = absurd cc
  resumed_sends None (Some given) act some is awaits r = absurd r
  resumed_sends (Some statement) None act some is awaits r = absurd r
  resumed_sends (Some statement) (Some given) act some is awaits r =
      let same : given ≡ act = cc in
      let later = has_later (g.session conn).later statement is in
      subst ActCanSend same (is_sends v (without_later g conn) conn _ after given r.is (later_keeps statement later.0 given later.1 awaits r))

  -- and all is as it has to be after it
  pub resumed_sound : (query : Option Statement) (act : Option GatewayAct) → later_query (g.session conn).later ≡ query → ListsAsBefore g after → Resumed (call_of m kind before now) (scene v machine g conn) query after act
      → (k : Clients) → k.sessions ≡ g → Sound k → Sound (with_sessions k after)
  resumed_sound None None is lists r k same sound = failed_sound g after r.0 k same sound
  resumed_sound None (Some act) is lists r k same sound = absurd r
  resumed_sound (Some statement) None is lists r k same sound = absurd r
  resumed_sound (Some statement) (Some act) is lists r k same sound =
      let later = has_later (g.session conn).later statement is in
      let at : (k.sessions.session conn).later ≡ Some later.0 = ap (λ (h : Gateway). (h.session conn).later) same ∙ later.1 in
      let alone : Sound (with_sessions k (without_later g conn)) = subst (λ (h : Gateway). Sound (with_sessions k (without_later h conn))) same (undue_sound k conn later.0 at sound) in
      let opens = later_open (k.streams conn) (k.sessions.session conn) later.0 at (sound.awaits conn) (sound.fits conn) in
      let awaits : Awaits (g.session conn).database (g.session conn).flight (g.session conn).later = subst (λ (h : Gateway). Awaits (h.session conn).database (h.session conn).flight (h.session conn).later) same (sound.awaits conn) in
      let listed : IsListed (after.session conn).tx = lists conn (subst (λ (h : Gateway). IsListed (h.session conn).tx) same (sound.listed conn)) in
      is_sound v (with_sessions k (without_later g conn)) conn opens.0 _ after act opens.1 r.is (later_keeps statement later.0 act later.1 awaits r) listed alone

-- ---- a query that a reader is done with

has_lent : (later : Option Later) (statement : Statement) → lent_query later ≡ Some statement → (l : Later) × (later ≡ Some l)
has_lent None statement is = absurd cc
has_lent (Some l) statement is = (l, refl)

module _ (g : Gateway) (conn : ℕ) (after : Gateway) where
  -- what is reported can be sent
  pub done_sends : (query : Option Statement) (reply : Option Reply) (given : Option GatewayAct) (act : GatewayAct) → given ≡ Some act → ToldCanSend reply → ReadDone g conn query reply after given → ActCanSend act
  done_sends None reply given act some can r = let none = r.1 in absurd cc
  done_sends (Some statement) None given act some can r = let none = r.1 in absurd cc
  done_sends (Some statement) (Some reply) given act some can r =
      let told = r.1 in
      let same : act ≡ gateway.Reply (responses_of reply) = cc in
      subst ActCanSend (sym same) can

  -- all is as it has to be after it
  pub done_sound : (query : Option Statement) (reply : Option Reply) (given : Option GatewayAct) → lent_query (g.session conn).later ≡ query → ReadDone g conn query reply after given
      → (k : Clients) → k.sessions ≡ g → Sound k → Sound (with_sessions k after)
  done_sound None reply given is r k same sound = failed_sound g after r.0 k same sound
  done_sound (Some statement) None given is r k same sound = failed_sound g after r.0 k same sound
  done_sound (Some statement) (Some reply) given is r k same sound =
      let later = has_lent (g.session conn).later statement is in
      let at : (k.sessions.session conn).later ≡ Some later.0 = ap (λ (h : Gateway). (h.session conn).later) same ∙ later.1 in
      subst (λ (h : Gateway). Sound (with_sessions k h)) (ap (λ (h : Gateway). without_later h conn) same ∙ sym r.0) (undue_sound k conn later.0 at sound)
