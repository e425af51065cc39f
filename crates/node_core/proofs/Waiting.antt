-- Whose message waits has a turn: each thing that happens to clients leaves it so.
use Rattle.std.proofs.Common.{◌≡◌, ℕ, zero, suc, Bool, true, false, cond, not, ◌||◌, ◌&&◌, ◌==◌, List, [], ◌∷◌, ◌++◌, map, find, ◌⊎◌, inl, inr, Option, Some, None, is_none, Result, Ok, Err, refl, sym, ap, subst, ◌∙◌, eqb-true, ne_eqb, eq-eqb, nat_le}
use Rattle.std.specs.List.{list_any, filter, flat_map}
use Rattle.std.specs.Option.{option_or}
use Rattle.std.proofs.lemmas.Bool.{cond_both, eqb-false}
use Rattle.std.proofs.lemmas.List.{map-append}
use Rattle.std.proofs.lemmas.List.Folds.{list_any-append}
use Rattle.wire_words.specs.declared.message.Message.{Message}
use Rattle.wire_msgs.specs.declared.fault.MsgFault.{MsgFault}
use Rattle.wire_msgs.specs.declared.request.Request.{Request}
use Rattle.wire_msgs.specs.declared.response.Response.{Response}
use Rattle.wire_msgs.specs.declared.response.Response.TheVariants as responses
use Rattle.wire_rows.specs.Cut.{Rows, cut, cut_in, bodies}
use Rattle.client_connection.specs.Connection.{Conn, opened, received}
use Rattle.sql_engine.specs.declared.kind.EngineKind.{EngineKind}
use Rattle.sql_engine.specs.Meanings.{Meaning, Told}
use Rattle.sql_engine.specs.Replies.{Statement}
use Rattle.database_state.specs.declared.database.Database.{Database}
use Rattle.session_spec.specs.Causes.{LeadershipLost}
use Rattle.session_spec.specs.Events.{tidy, landed, settled_by, on_applied, landed_reply, told_to, told_by, told_applied, still_lent, loses, lost, on_lost, placed, ordered, last_of, waits, told_lost, left, on_hangup, connected}
use Rattle.session_spec.specs.Machine.{Machine}
use Rattle.session_spec.specs.Requests.{with_session, without_later, affected_by}
use Rattle.session_spec.specs.Sessions.{Reply, Refusal, Single, Rows as RowsOf, responses_of, result, empty, change_reply, db, Kind, Opening, Configuring, Writing, Committing, Querying, Flight, Later, Due, Lent, Session, Gateway, View, absent, fresh, is_flying, is_due, is_busy, Effect, HandsOver, JoinsPeer, Weighs, Turned, Refused, Lacks, Answers, Proposes, Lends, Affects}
use Rattle.session_table.specs.declared.session.Session.{Session as TableSession}
use Rattle.session_table.specs.Sweeping.{told_in, all_told}
use Rattle.session_table.specs.Table.{has_conn, session_found, session_at, table_of}
use Rattle.session_gateway.specs.declared.act.Act.{Act as GatewayAct}
use Rattle.session_gateway.specs.Calls.{Is}
use Rattle.session_gateway.specs.Seen.{seen}
use Rattle.client_sessions.specs.declared.act.Act.{Act}
use Rattle.client_sessions.specs.declared.clients.Clients.{Clients as Held}
use Rattle.client_sessions.specs.declared.connect_result.ConnectResult.{ConnectResult}
use Rattle.client_sessions.specs.declared.connect_result.ConnectResult.TheVariants.{Joined, Full, Taken}
use Rattle.client_sessions.specs.Calls.{Comes, TookTurn, told_conns, landed_at, lost_all, call_of, scene}
use Rattle.client_sessions.specs.Clients.{Clients, no_clients, joining, joined, joined_as, without, hung_up, closing, closed, heard, heard_on, Offer, first_of, offered_on, offered, offer_of, next_offer, taken, freed, Fits, Sound}
use Rattle.client_sessions.specs.Later.{Resumes, Finishes, turn_for}
use Rattle.client_sessions.specs.Seen.{clients_of}
use Rattle.node_core.specs.Values.{requests_in, waiting_on}
use Rattle.node_core.specs.Waiting.{is_among, HasTurns, IsSought}

-- ---- among others

or_false : (a b : Bool) → (a || b) ≡ false → (a ≡ false) × (b ≡ false)
or_false true b e = absurd cc
or_false false b e = (refl, e)

both_false : (a b : Bool) → a ≡ false → b ≡ false → (a || b) ≡ false
both_false true b e f = absurd cc
both_false false b e f = f

among_both : (conn : ℕ) (xs ys : List ℕ) → is_among conn (xs ++ ys) ≡ false → (is_among conn xs ≡ false) × (is_among conn ys ≡ false)
among_both conn xs ys e = or_false _ _ (sym (list_any-append (λ (other : ℕ). other == conn) xs ys) ∙ e)

turned_about : (a b : ℕ) → (a == b) ≡ false → (b == a) ≡ false
turned_about a b e = ne_eqb b a (λ q. eqb-false a b e (sym q))

apart : (conn other : ℕ) (rest : List ℕ) → is_among other (conn ∷ rest) ≡ false → (other == conn) ≡ false
apart conn other rest e = turned_about conn other (or_false (conn == other) (is_among other rest) e).0

-- ---- what is offered

-- whose connection isn't open has nothing
closed_none : (conn : ℕ) (busy : Bool) → offered_on conn [] busy None ≡ None
closed_none conn true = refl
closed_none conn false = refl

first_none : (conn : ℕ) (xs ys : List ℕ) (stream : Conn) (ms : List Message) → first_of conn xs stream ms ≡ None → first_of conn ys stream ms ≡ None
first_none conn xs ys stream [] e = refl
first_none conn xs ys stream (m ∷ ms) e = absurd cc

-- nothing is offered, whatever turns follow
none_at : (conn : ℕ) (xs ys : List ℕ) (busy : Bool) (stream : Option Conn) → offered_on conn xs busy stream ≡ None → offered_on conn ys busy stream ≡ None
none_at conn xs ys true stream e = refl
none_at conn xs ys false None e = refl
none_at conn xs ys false (Some c) e = first_none conn xs ys c c.waiting e

first_front : (conn : ℕ) (turns : List ℕ) (stream : Conn) (ms : List Message) (o : Offer) → first_of conn turns stream ms ≡ Some o → (o.turns ≡ conn ∷ turns) × (o.conn ≡ conn)
first_front conn turns stream [] o e = absurd cc
first_front conn turns stream (m ∷ ms) o e =
    let made : Offer = record { conn = conn; message = m; stream = record { end = stream.end; waiting = ms; full = stream.full }; turns = conn ∷ turns } in
    let same : made ≡ o = cc in
    (sym (ap (λ (x : Offer). x.turns) same), sym (ap (λ (x : Offer). x.conn) same))

offered_front : (conn : ℕ) (turns : List ℕ) (busy : Bool) (stream : Option Conn) (o : Offer) → offered_on conn turns busy stream ≡ Some o → (o.turns ≡ conn ∷ turns) × (o.conn ≡ conn)
offered_front conn turns true stream o e = absurd cc
offered_front conn turns false None o e = absurd cc
offered_front conn turns false (Some c) o e = first_front conn turns c c.waiting o e

-- one place of sessions and streams is changed
offered_where : (b : Bool) (conn : ℕ) (s t : Session) (x y : Option Conn) → (b ≡ true → offered_on conn [] (is_busy s) x ≡ None) → (b ≡ false → offered_on conn [] (is_busy t) y ≡ None)
    → offered_on conn [] (is_busy (cond b s t)) (cond b x y) ≡ None
offered_where true conn s t x y here elsewhere = here refl
offered_where false conn s t x y here elsewhere = elsewhere refl

-- a place of the streams is changed that is another one
elsewhere : (b : Bool) (conn : ℕ) (busy : Bool) (x y : Option Conn) → b ≡ false → offered_on conn [] busy y ≡ None → offered_on conn [] busy (cond b x y) ≡ None
elsewhere true conn busy x y away h = absurd cc
elsewhere false conn busy x y away h = h

-- ---- connections that come and go

pub none_turns : HasTurns no_clients
none_turns = λ conn free. refl

joined_turns : (k : Clients) (conn : ℕ) (how : ConnectResult) → HasTurns k → HasTurns (joined_as k conn how)
unfolding connected
joined_turns k conn Joined h = λ other free. offered_where (other == conn) other fresh (k.sessions.session other) (Some opened) (k.streams other) (λ e. refl) (λ e. h other free)
joined_turns k conn Full h = h
joined_turns k conn Taken h = h

pub came_turns : (old new : Clients) (conn : ℕ) → new ≡ joined old conn → HasTurns old → HasTurns new
came_turns old new conn is h = subst HasTurns (sym is) (joined_turns old conn (joining old.sessions conn) h)

without_turns : (k : Clients) (conn : ℕ) → HasTurns k → HasTurns (without k conn)
unfolding on_hangup tidy
without_turns k conn h = λ other free.
    offered_where (other == conn) other (left (k.sessions.session conn) (k.sessions.session conn).flight) (k.sessions.session other) None (k.streams other) (λ e. closed_none other _) (λ e. h other free)

pub left_turns : (old new : Clients) (conn : ℕ) → new ≡ hung_up old conn → HasTurns old → HasTurns new
unfolding hung_up
left_turns old new conn is h = subst HasTurns (sym is) (cond_both (is_none (old.streams conn)) old (without old conn) HasTurns (λ e. h) (λ e. without_turns old conn h))

pub closed_turns : (old new : Clients) (conn : ℕ) → new ≡ closed old conn → HasTurns old → HasTurns new
unfolding closed
closed_turns old new conn is h = subst HasTurns (sym is) (cond_both (is_none (closing (old.streams conn))) old (without old conn) HasTurns (λ e. h) (λ e. without_turns old conn h))

-- ---- bytes and messages

heard_more : (k : Clients) (conn : ℕ) (bytes : List ℕ) (stream : Option Conn) → HasTurns k → HasTurns (heard_on k conn bytes stream)
heard_more k conn bytes None h = h
heard_more k conn bytes (Some c) h = λ other free.
    let both = among_both other k.turns (conn ∷ []) free in
    elsewhere (other == conn) other (is_busy (k.sessions.session other)) (Some (received c bytes)) (k.streams other) (apart conn other [] both.1) (h other both.0)

pub heard_turns : (old new : Clients) (conn : ℕ) (bytes : List ℕ) → new ≡ heard old conn bytes → HasTurns old → HasTurns new
unfolding heard
heard_turns old new conn bytes is h = subst HasTurns (sym is) (heard_more old conn bytes (old.streams conn) h)

-- who has a turn before the one that is taken has nothing
before_at : (k : Clients) (conn : ℕ) (turns : List ℕ) (o : Offer) (other : ℕ) (x : Option Offer) (b : Bool) → offered k conn turns ≡ x → (conn == other) ≡ b → option_or x (offer_of k turns) ≡ Some o → is_among other o.turns ≡ false
    → (offer_of k turns ≡ Some o → (is_among other turns ≡ false) ⊎ (offered k other [] ≡ None)) → (is_among other (conn ∷ turns) ≡ false) ⊎ (offered k other [] ≡ None)
before_at k conn turns o other (Some p) b is same e free later =
    let front = offered_front conn turns (is_busy (k.sessions.session conn)) (k.streams conn) o (is ∙ e) in inl (sym (ap (is_among other) front.0) ∙ free)
before_at k conn turns o other None true is same e free later =
    inr (subst (λ (c : ℕ). offered k c [] ≡ None) (eqb-true conn other same) (none_at conn turns [] (is_busy (k.sessions.session conn)) (k.streams conn) is))
before_at k conn turns o other None false is same e free later =
    elim (later e) [
      | inl out ↦ inl (both_false (conn == other) (is_among other turns) same out)
      | inr none ↦ inr none
    ]

before : (k : Clients) (turns : List ℕ) (o : Offer) (other : ℕ) → offer_of k turns ≡ Some o → is_among other o.turns ≡ false → (is_among other turns ≡ false) ⊎ (offered k other [] ≡ None)
before k [] o other e free = absurd cc
before k (conn ∷ turns) o other e free = before_at k conn turns o other (offered k conn turns) (conn == other) refl refl e free (λ later. before k turns o other later free)

-- the connection whose message is taken keeps its turn
its_turn_at : (k : Clients) (conn : ℕ) (turns : List ℕ) (o : Offer) (x : Option Offer) → offered k conn turns ≡ x → option_or x (offer_of k turns) ≡ Some o
    → (offer_of k turns ≡ Some o → (rest : List ℕ) × (o.turns ≡ o.conn ∷ rest)) → (rest : List ℕ) × (o.turns ≡ o.conn ∷ rest)
its_turn_at k conn turns o (Some p) is e later =
    let front = offered_front conn turns (is_busy (k.sessions.session conn)) (k.streams conn) o (is ∙ e) in (turns, front.0 ∙ ap (λ (c : ℕ). c ∷ turns) (sym front.1))
its_turn_at k conn turns o None is e later = later e

its_turn : (k : Clients) (turns : List ℕ) (o : Offer) → offer_of k turns ≡ Some o → (rest : List ℕ) × (o.turns ≡ o.conn ∷ rest)
its_turn k [] o e = absurd cc
its_turn k (conn ∷ turns) o e = its_turn_at k conn turns o (offered k conn turns) refl e (λ later. its_turn k turns o later)

-- whoever has no turn then is another connection
its_own : (k : Clients) (o : Offer) → next_offer k ≡ Some o → (other : ℕ) → is_among other o.turns ≡ false → (other == o.conn) ≡ false
unfolding next_offer
its_own k o e other free = let front = its_turn k k.turns o e in apart o.conn other front.0 (sym (ap (is_among other) front.1) ∙ free)

taken_turns : (k : Clients) (o : Offer) → next_offer k ≡ Some o → HasTurns k → HasTurns (taken k (Some o))
unfolding next_offer
taken_turns k o e h = λ other free.
    elsewhere (other == o.conn) other (is_busy (k.sessions.session other)) (Some o.stream) (k.streams other) (its_own k o e other free)
    (elim (before k k.turns o other e free) [
      | inl out ↦ h other out
      | inr none ↦ none
    ])

none_left_at : (k : Clients) (conn : ℕ) (turns : List ℕ) (other : ℕ) (x : Option Offer) (b : Bool) → offered k conn turns ≡ x → (conn == other) ≡ b → option_or x (offer_of k turns) ≡ None
    → (offer_of k turns ≡ None → (is_among other turns ≡ false) ⊎ (offered k other [] ≡ None)) → (is_among other (conn ∷ turns) ≡ false) ⊎ (offered k other [] ≡ None)
none_left_at k conn turns other (Some p) b is same e later = absurd cc
none_left_at k conn turns other None true is same e later =
    inr (subst (λ (c : ℕ). offered k c [] ≡ None) (eqb-true conn other same) (none_at conn turns [] (is_busy (k.sessions.session conn)) (k.streams conn) is))
none_left_at k conn turns other None false is same e later =
    elim (later e) [
      | inl out ↦ inl (both_false (conn == other) (is_among other turns) same out)
      | inr none ↦ inr none
    ]

none_left : (k : Clients) (turns : List ℕ) (other : ℕ) → offer_of k turns ≡ None → (is_among other turns ≡ false) ⊎ (offered k other [] ≡ None)
none_left k [] other e = inl refl
none_left k (conn ∷ turns) other e = none_left_at k conn turns other (offered k conn turns) (conn == other) refl refl e (λ later. none_left k turns other later)

idle_turns : (k : Clients) → next_offer k ≡ None → HasTurns k → HasTurns (taken k None)
unfolding next_offer
idle_turns k e h = λ other free.
    elim (none_left k k.turns other e) [
      | inl out ↦ h other out
      | inr none ↦ none
    ]

-- ---- what comes of a request

unaffected : (g : Gateway) (effect : Effect) (other : ℕ) → (affected_by g effect).session other ≡ g.session other
unaffected g (HandsOver id) other = refl
unaffected g (JoinsPeer id) other = refl
unaffected g (Weighs weight) other = refl

session_where : (b : Bool) (s t : Session) → b ≡ false → cond b s t ≡ t
session_where true s t away = absurd cc
session_where false s t away = refl

-- the session of another connection stays
others_stay : (v : View) (g : Gateway) (conn : ℕ) (turned : Turned) (now : Gateway) (act : GatewayAct) → Is v g conn turned now act → (other : ℕ) → (other == conn) ≡ false → now.session other ≡ g.session other
unfolding with_session
others_stay v g conn (Refused cause) now act is other away = ap (λ (x : Gateway). x.session other) is.0
others_stay v g conn Lacks now act is other away = absurd is
others_stay v g conn (Answers s reply note) now act is other away = ap (λ (x : Gateway). x.session other) is.0 ∙ session_where (other == conn) s (g.session other) away
others_stay v g conn (Proposes s contents note) now act is other away = ap (λ (x : Gateway). x.session other) is.0 ∙ session_where (other == conn) s (g.session other) away
others_stay v g conn (Lends s job) now act is other away = ap (λ (x : Gateway). x.session other) is.0 ∙ session_where (other == conn) s (g.session other) away
others_stay v g conn (Affects effect) now act is other away = ap (λ (x : Gateway). x.session other) is.0 ∙ unaffected g effect other

came_stay : (m : Meaning) (kind : EngineKind) (v : View) (machine : Machine) (g : Gateway) (conn : ℕ) (asked : Result Request MsgFault) (told_before told_now : Option Told) (refused_before refused_now : ℕ) (now : Gateway) (act : Act)
    → Comes (call_of m kind told_before told_now) (scene v machine g conn) asked refused_before refused_now now act → (other : ℕ) → (other == conn) ≡ false → now.session other ≡ g.session other
came_stay m kind v machine g conn (Ok request) told_before told_now refused_before refused_now now act c other away = others_stay v g conn _ now c.gateway_act c.turned.is other away
came_stay m kind v machine g conn (Err fault) told_before told_now refused_before refused_now now act c other away = ap (λ (x : Gateway). x.session other) c.sessions_stay

-- sessions change of connections that have a turn
pub freed_turns : (k : Clients) (g : Gateway) (turns : List ℕ) → HasTurns k → ((other : ℕ) → is_among other turns ≡ false → (is_among other k.turns ≡ false) × (g.session other ≡ k.sessions.session other))
    → HasTurns (record { sessions = g; streams = k.streams; turns = turns })
freed_turns k g turns h stays = λ other free. let s = stays other free in ap (λ (x : Session). offered_on other [] (is_busy x) (k.streams other)) s.1 ∙ h other s.0

pub took_turns : (m : Meaning) (kind : EngineKind) (v : View) (machine : Machine) (old : Clients) (told_before told_now : Option Told) (refused_before refused_now : ℕ) (new : Clients) (act : Option Act)
    → TookTurn (call_of m kind told_before told_now) v machine old refused_before refused_now new act → HasTurns old → HasTurns new
took_turns m kind v machine old told_before told_now refused_before refused_now new None t h = subst HasTurns (sym t.rest) (idle_turns old t.none h)
took_turns m kind v machine old told_before told_now refused_before refused_now new (Some act) t h =
    subst HasTurns (sym t.rest)
    (freed_turns (taken old (Some t.offer)) new.sessions t.offer.turns (taken_turns old t.offer t.next h) (λ other free.
    (free, came_stay m kind v machine old.sessions t.offer.conn _ told_before told_now refused_before refused_now new.sessions act t.came other (its_own old t.offer t.next other free))))

-- if no message was left none has a turn
pub none_turn : (m : Meaning) (kind : EngineKind) (v : View) (machine : Machine) (old : Clients) (told_before told_now : Option Told) (refused_before refused_now : ℕ) (new : Clients)
    → TookTurn (call_of m kind told_before told_now) v machine old refused_before refused_now new None → new.turns ≡ []
none_turn m kind v machine old told_before told_now refused_before refused_now new t = ap (λ (k : Clients). k.turns) t.rest

-- ---- queries that are answered later

without_stays : (g : Gateway) (conn other : ℕ) → (other == conn) ≡ false → (without_later g conn).session other ≡ g.session other
unfolding with_session
without_stays g conn other away = session_where (other == conn) _ (g.session other) away

resumed_stay : (m : Meaning) (kind : EngineKind) (v : View) (machine : Machine) (g : Gateway) (conn : ℕ) (query : Option Statement) (told_before told_now : Option Told) (refused_before refused_now : ℕ) (now : Gateway) (act : Option Act)
    → Resumes (call_of m kind told_before told_now) (scene v machine g conn) query refused_before refused_now now act → (other : ℕ) → is_among other (turn_for conn act) ≡ false → now.session other ≡ g.session other
resumed_stay m kind v machine g conn None told_before told_now refused_before refused_now now None r other free = ap (λ (x : Gateway). x.session other) r.0
resumed_stay m kind v machine g conn None told_before told_now refused_before refused_now now (Some act) r other free = absurd r
resumed_stay m kind v machine g conn (Some statement) told_before told_now refused_before refused_now now None r other free = absurd r
resumed_stay m kind v machine g conn (Some statement) told_before told_now refused_before refused_now now (Some act) r other free =
    let away = apart conn other [] free in
    others_stay v (without_later g conn) conn _ now r.gateway_act r.ran.is other away ∙ without_stays g conn other away

pub resumed_turns : (m : Meaning) (kind : EngineKind) (v : View) (machine : Machine) (old : Clients) (conn : ℕ) (query : Option Statement) (told_before told_now : Option Told) (refused_before refused_now : ℕ) (new : Clients) (act : Option Act)
    → Resumes (call_of m kind told_before told_now) (scene v machine old.sessions conn) query refused_before refused_now new.sessions act → new ≡ freed old new.sessions (turn_for conn act) → HasTurns old → HasTurns new
resumed_turns m kind v machine old conn query told_before told_now refused_before refused_now new act r is h =
    subst HasTurns (sym is) (freed_turns old new.sessions (old.turns ++ turn_for conn act) h (λ other free.
    let both = among_both other old.turns (turn_for conn act) free in
    (both.0, resumed_stay m kind v machine old.sessions conn query told_before told_now refused_before refused_now new.sessions act r other both.1)))

finished_stay : (g : Gateway) (conn : ℕ) (query : Option Statement) (reply : Option Reply) (now : Gateway) (act : Option Act) → Finishes g conn query reply now act
    → (other : ℕ) → is_among other (turn_for conn act) ≡ false → now.session other ≡ g.session other
finished_stay g conn None reply now act f other free = ap (λ (x : Gateway). x.session other) f.0
finished_stay g conn (Some statement) None now act f other free = ap (λ (x : Gateway). x.session other) f.0
finished_stay g conn (Some statement) (Some reply) now act f other free =
    let away = apart conn other [] (sym (ap (λ (a : Option Act). is_among other (turn_for conn a)) f.1) ∙ free) in
    ap (λ (x : Gateway). x.session other) f.0 ∙ without_stays g conn other away

pub finished_turns : (old : Clients) (conn : ℕ) (query : Option Statement) (reply : Option Reply) (new : Clients) (act : Option Act)
    → Finishes old.sessions conn query reply new.sessions act → new ≡ freed old new.sessions (turn_for conn act) → HasTurns old → HasTurns new
finished_turns old conn query reply new act f is h =
    subst HasTurns (sym is) (freed_turns old new.sessions (old.turns ++ turn_for conn act) h (λ other free.
    let both = among_both other old.turns (turn_for conn act) free in
    (both.0, finished_stay old.sessions conn query reply new.sessions act f other both.1)))

-- ---- who is told gets a turn

parts_some : (n : ℕ) (columns : List (List ℕ)) (rows : Rows) → (part : Rows) × ((parts : List Rows) × (cut_in n columns rows ≡ part ∷ parts))
parts_some zero columns rows = (_, (_, refl))
parts_some (suc n) columns rows = (_, (_, refl))

-- an answer is told in one response at least
responses_some : (r : Reply) → (one : Response) × ((more : List Response) × (responses_of r ≡ one ∷ more))
unfolding cut
responses_some (Refusal cause) = (_, (_, refl))
responses_some (Single response) = (_, (_, refl))
responses_some (RowsOf answer) =
    let parts = parts_some _ answer.columns answer.rows in
    (_, (_, ap (λ (ps : List Rows). map (λ (body : List ℕ). responses.Rows body) (bodies answer.columns ps)) parts.1.1))

untold_by : (conn other : ℕ) (told : List Response) (one : Response) (more : List Response) → told ≡ one ∷ more → is_among other (told_conns (map (λ (response : Response). (conn, response)) told)) ≡ false → (conn == other) ≡ false
untold_by conn other told one more is e =
    (or_false (conn == other) _ (sym (ap (λ (rs : List Response). is_among other (told_conns (map (λ (response : Response). (conn, response)) rs))) is) ∙ e)).0

-- a reply to a connection
abbrev is_to : ℕ → ℕ × Reply → Bool
is_to other r = r.0 == other

untold : (replies : List (ℕ × Reply)) (other : ℕ) → is_among other (told_conns (all_told replies)) ≡ false → list_any (is_to other) replies ≡ false
untold [] other e = refl
untold (r ∷ rs) other e =
    let both = among_both other (told_conns (told_in r)) (told_conns (all_told rs)) (sym (ap (is_among other) (map-append (λ (t : ℕ × Response). t.0) (told_in r) (all_told rs))) ∙ e) in
    let some = responses_some r.1 in
    both_false (r.0 == other) (list_any (is_to other) rs) (untold_by r.0 other (responses_of r.1) some.0 some.1.0 some.1.1 both.0) (untold rs other both.1)

-- ---- an entry is applied

each_untold_at : (f : ℕ → List (ℕ × Reply)) (conn : ℕ) (conns : List ℕ) (other : ℕ) (b : Bool) → (conn == other) ≡ b → (b || is_among other conns) ≡ true → list_any (is_to other) (f conn) ≡ false
    → (is_among other conns ≡ true → list_any (is_to other) (f other) ≡ false) → list_any (is_to other) (f other) ≡ false
each_untold_at f conn conns other true same e none later = subst (λ (c : ℕ). list_any (is_to other) (f c) ≡ false) (eqb-true conn other same) none
each_untold_at f conn conns other false same e none later = later e

each_untold : (f : ℕ → List (ℕ × Reply)) (conns : List ℕ) (other : ℕ) → is_among other conns ≡ true → list_any (is_to other) (flat_map f conns) ≡ false → list_any (is_to other) (f other) ≡ false
each_untold f [] other e none = absurd cc
each_untold f (conn ∷ conns) other e none =
    let both = or_false _ _ (sym (list_any-append (is_to other) (f conn) (flat_map f conns)) ∙ none) in
    each_untold_at f conn conns other (conn == other) refl e both.0 (λ later. each_untold f conns other later both.1)

told_itself : (other : ℕ) (r : Reply) → list_any (is_to other) ((other, r) ∷ []) ≡ false → ⊥
told_itself other r e = let same : (other == other) ≡ true = eq-eqb other other refl in let not_it = (or_false (other == other) false e).0 in absurd (cc (same, not_it))

landed_by : (other : ℕ) (s : Session) (f : Flight) (kind : Kind) (x : Option Conn) → list_any (is_to other) (told_to other (landed_reply kind)) ≡ false → offered_on other [] (is_busy (landed s f kind)) x ≡ None
landed_by other s f Opening x e = absurd (told_itself other db e)
landed_by other s f (Configuring short) x e = absurd (told_itself other (change_reply short) e)
landed_by other s f (Writing reply) x e = absurd (told_itself other reply e)
landed_by other s f Committing x e = absurd (told_itself other (result 0) e)
landed_by other s f (Querying statement) x e = refl

landed_where : (b hung : Bool) (other : ℕ) (s : Session) (f : Flight) (x : Option Conn) → hung ≡ false → list_any (is_to other) (cond b (cond hung [] (told_to other (landed_reply f.kind))) []) ≡ false
    → offered_on other [] (is_busy s) x ≡ None → offered_on other [] (is_busy (cond b (cond hung absent (landed s f f.kind)) s)) x ≡ None
landed_where true true other s f x stays e h = absurd cc
landed_where true false other s f x stays e h = landed_by other s f f.kind x e
landed_where false hung other s f x stays e h = h

landed_none : (index other : ℕ) (s : Session) (flight : Option Flight) (x : Option Conn) → s.hung ≡ false → list_any (is_to other) (told_by index other s flight) ≡ false
    → offered_on other [] (is_busy s) x ≡ None → offered_on other [] (is_busy (settled_by index s flight)) x ≡ None
landed_none index other s None x stays e h = h
landed_none index other s (Some f) x stays e h = landed_where (f.last == index) s.hung other s f x stays e h

landed_on : (index other : ℕ) (s : Session) (x : Option Conn) → Fits x s → (s.there ≡ true → list_any (is_to other) (told_by index other s s.flight) ≡ false)
    → offered_on other [] (is_busy s) x ≡ None → offered_on other [] (is_busy (settled_by index s s.flight)) x ≡ None
landed_on index other s None fits untold_of h = closed_none other _
landed_on index other s (Some c) fits untold_of h = landed_none index other s s.flight (Some c) fits.1 (untold_of fits.0) h

pub landed_turns : (old new : Clients) (index : ℕ) → new ≡ landed_at index old → IsSought old.sessions → Sound old → HasTurns old → HasTurns new
unfolding on_applied tidy told_applied
landed_turns old new index is sought sound h = subst HasTurns (sym is) (λ other free.
    let g = old.sessions in
    let both = among_both other old.turns (told_conns (all_told (told_applied index g))) free in
    let none = untold (told_applied index g) other both.1 in
    landed_on index other (g.session other) (old.streams other) (sound.fits other)
    (λ there. each_untold (λ (conn : ℕ). told_by index conn (g.session conn) (g.session conn).flight) g.conns other (sought other there) none) (h other both.0))

-- ---- leadership is lost

unplaced_at : (b : Bool) (n o : ℕ) (os rest : List ℕ) (other : ℕ) → is_among other (cond b (n ∷ o ∷ os) (o ∷ rest)) ≡ false → (is_among other rest ≡ false → ((n == other) ≡ false) × (is_among other os ≡ false))
    → ((n == other) ≡ false) × (is_among other (o ∷ os) ≡ false)
unplaced_at true n o os rest other e later = or_false (n == other) (is_among other (o ∷ os)) e
unplaced_at false n o os rest other e later =
    let both = or_false (o == other) (is_among other rest) e in
    let more = later both.1 in
    (more.0, both_false (o == other) (is_among other os) both.0 more.1)

unplaced : (key : ℕ → ℕ) (n : ℕ) (ns : List ℕ) (other : ℕ) → is_among other (placed key n ns) ≡ false → ((n == other) ≡ false) × (is_among other ns ≡ false)
unplaced key n [] other e = ((or_false (n == other) false e).0, refl)
unplaced key n (o ∷ os) other e = unplaced_at (nat_le (key n) (key o)) n o os (placed key n os) other e (λ later. unplaced key n os other later)

unordered : (key : ℕ → ℕ) (ns : List ℕ) (other : ℕ) → is_among other (ordered key ns) ≡ false → is_among other ns ≡ false
unordered key [] other e = refl
unordered key (n ∷ ns) other e = let both = unplaced key n (ordered key ns) other e in both_false (n == other) (is_among other ns) both.0 (unordered key ns other both.1)

unfiltered_at : (test : ℕ → Bool) (n : ℕ) (ns : List ℕ) (other : ℕ) (b passes : Bool) → (n == other) ≡ b → test n ≡ passes → is_among other (cond passes (n ∷ filter test ns) (filter test ns)) ≡ false → (b || is_among other ns) ≡ true
    → (is_among other (filter test ns) ≡ false → is_among other ns ≡ true → test other ≡ false) → test other ≡ false
unfiltered_at test n ns other true true same is e there later = let not_it = (or_false (n == other) (is_among other (filter test ns)) e).0 in absurd (cc (same, not_it))
unfiltered_at test n ns other true false same is e there later = subst (λ (c : ℕ). test c ≡ false) (eqb-true n other same) is
unfiltered_at test n ns other false true same is e there later = later (or_false (n == other) (is_among other (filter test ns)) e).1 there
unfiltered_at test n ns other false false same is e there later = later e there

unfiltered : (test : ℕ → Bool) (ns : List ℕ) (other : ℕ) → is_among other (filter test ns) ≡ false → is_among other ns ≡ true → test other ≡ false
unfiltered test [] other e there = absurd cc
unfiltered test (n ∷ ns) other e there = unfiltered_at test n ns other (n == other) (test n) refl refl e there (λ none in_rest. unfiltered test ns other none in_rest)

-- each is informed of the same
untold_each : (r : Reply) (conns : List ℕ) (other : ℕ) → list_any (is_to other) (map (λ (conn : ℕ). (conn, r)) conns) ≡ false → is_among other conns ≡ false
untold_each r [] other e = refl
untold_each r (conn ∷ conns) other e =
    let both = or_false (conn == other) (list_any (is_to other) (map (λ (c : ℕ). (c, r)) conns)) e in both_false (conn == other) (is_among other conns) both.0 (untold_each r conns other both.1)

-- who isn't told waited for a reader, or for nothing
lost_busy : (other : ℕ) (flying : Bool) (later : Option Later) (x : Option Conn) → (flying || is_due later) ≡ false → offered_on other [] (flying || not (is_none later)) x ≡ None → offered_on other [] (not (is_none (still_lent later))) x ≡ None
lost_busy other true later x e h = absurd cc
lost_busy other false None x e h = h
lost_busy other false (Some (Due statement)) x e h = absurd cc
lost_busy other false (Some (Lent statement)) x e h = refl

lost_where : (hung : Bool) (other : ℕ) (s : Session) (x : Option Conn) → hung ≡ false → (not hung && (is_flying s || is_due s.later)) ≡ false → offered_on other [] (is_busy s) x ≡ None
    → offered_on other [] (is_busy (cond hung absent (record s { later = still_lent s.later; tx = None; lost = loses s; flight = None }))) x ≡ None
lost_where true other s x stays e h = absurd cc
lost_where false other s x stays e h = lost_busy other (is_flying s) s.later x e h

lost_on : (other : ℕ) (s : Session) (x : Option Conn) → Fits x s → (s.there ≡ true → waits s ≡ false) → offered_on other [] (is_busy s) x ≡ None → offered_on other [] (is_busy (lost s)) x ≡ None
lost_on other s None fits quiet h = closed_none other _
lost_on other s (Some c) fits quiet h = lost_where s.hung other s (Some c) fits.1 (quiet fits.0) h

pub lost_turns : (old new : Clients) → new ≡ lost_all old → IsSought old.sessions → Sound old → HasTurns old → HasTurns new
unfolding on_lost tidy told_lost
lost_turns old new is sought sound h = subst HasTurns (sym is) (λ other free.
    let g = old.sessions in
    let both = among_both other old.turns (told_conns (all_told (told_lost g))) free in
    let none = untold_each (Refusal LeadershipLost) _ other (untold (told_lost g) other both.1) in
    let key : ℕ → ℕ = λ (conn : ℕ). last_of (g.session conn).flight in
    let test : ℕ → Bool = λ (conn : ℕ). waits (g.session conn) in
    lost_on other (g.session other) (old.streams other) (sound.fits other)
    (λ there. unfiltered test g.conns other (unordered key (filter test g.conns) other none) (sought other there)) (h other both.0))

-- ---- the clients that code holds

found_at : (databases : List Database) (b : Bool) (s : TableSession) (found : Option TableSession) (rest : Bool) → (session_found databases (cond b (Some s) found)).there ≡ true → ((session_found databases found).there ≡ true → rest ≡ true) → (b || rest) ≡ true
found_at databases true s found rest e later = refl
found_at databases false s found rest e later = later e

found_among : (databases : List Database) (ss : List TableSession) (conn : ℕ) → (session_found databases (find (has_conn conn) ss)).there ≡ true → is_among conn (map (λ (s : TableSession). s.conn) ss) ≡ true
found_among databases [] conn e = absurd cc
found_among databases (s ∷ ss) conn e = found_at databases (s.conn == conn) s (find (has_conn conn) ss) _ e (λ later. found_among databases ss conn later)

pub sought_held : (held : Held) (databases : List Database) → IsSought (clients_of held databases).sessions
unfolding clients_of seen table_of session_at
sought_held held databases = λ conn there. found_among databases held.gateway.sessions conn there

-- ---- where no turn is left

none_waits : (conn : ℕ) (stream : Conn) (ms : List Message) → stream.waiting ≡ ms → first_of conn [] stream ms ≡ None → requests_in stream.waiting ≡ []
none_waits conn stream [] is e = ap requests_in is
none_waits conn stream (m ∷ ms) is e = absurd cc

nothing_waits : (conn : ℕ) (busy : Bool) (stream : Option Conn) → busy ≡ false → offered_on conn [] busy stream ≡ None → waiting_on stream ≡ []
nothing_waits conn true stream idle e = absurd cc
nothing_waits conn false None idle e = refl
nothing_waits conn false (Some c) idle e = none_waits conn c c.waiting refl e

-- no request waits, but after one that waits for its answer
pub nobody_waits : (k : Clients) → HasTurns k → k.turns ≡ [] → (conn : ℕ) → is_busy (k.sessions.session conn) ≡ false → waiting_on (k.streams conn) ≡ []
nobody_waits k h none conn idle = nothing_waits conn (is_busy (k.sessions.session conn)) (k.streams conn) idle (h conn (ap (is_among conn) none))
