-- A request at the session of an open connection, and a query that is run later than it was asked: what comes of it can be sent,
-- and what holds of clients holds after it.
use Rattle.std.proofs.Common.{◌≡◌, ◌≢◌, ℕ, Bool, true, false, cond, not, ◌&&◌, ◌||◌, Option, Some, None, is_none, Result, Err, refl, sym, ap, subst, ◌∙◌}
use Rattle.std.proofs.lemmas.Bool.{eq-eqb}
use Rattle.wire_msgs.specs.declared.fault.MsgFault.{MsgFault}
use Rattle.wire_msgs.specs.declared.fault.MsgFault.TheVariants as faults
use Rattle.wire_msgs.specs.Reading.{Fails}
use Rattle.wire_msgs.specs.declared.request.Request.{Request}
use Rattle.wire_msgs.specs.declared.request.Request.TheVariants as requests
use Rattle.wire_words.specs.declared.message.Message.{Message}
use Rattle.wire_msgs.specs.Requests.{Reads}
use Rattle.client_connection.specs.Connection.{Conn}
use Rattle.sql_engine.specs.declared.kind.EngineKind.{EngineKind}
use Rattle.sql_engine.specs.Meanings.{Meaning, Told}
use Rattle.session_spec.specs.Machine.{Machine}
use Rattle.session_spec.specs.Sessions.{Session, Gateway, View, Effect, HandsOver, JoinsPeer, Weighs, Turned, Refused, Lacks, Answers, Proposes, Lends, Affects, may_ask}
use Rattle.session_spec.specs.Requests.{on_request, with_session, affected_by}
use Rattle.session_spec.specs.Touched.{IsListed}
use Rattle.session_gateway.specs.declared.act.Act.{Act}
use Rattle.session_gateway.specs.Calls.{Is, TurnsByAnswers, HasNoNul, IsConfigured, act_for}
use Rattle.session_gateway.specs.Seen.{ListsAsBefore}
use Rattle.client_sessions.specs.Sending.{ActCanSend}
use Rattle.client_sessions.specs.Clients.{Clients, with_sessions, Fits, Sound, Offer, IsOffered}
use Rattle.client_sessions.proofs.Requests.{Keeps, request_kept}
use Rattle.client_sessions.proofs.Writable.{refusal_sent}
use Rattle.client_sessions.proofs.Soundness.{session_sound}
use Rattle.session_statements.specs.Calls.{call_of}
use Rattle.session_outcomes.specs.Scenes.{scene}

-- a request that is read holds no NUL in its texts
pub reads_plain : (m : Message) (request : Request) → Reads m request → HasNoNul request
reads_plain m requests.Leader r = tt
reads_plain m (requests.Client id) r = tt
reads_plain m (requests.Open name flags vfs) r = r.fields.3.no_nul
reads_plain m (requests.Prepare db sql wide) r = r.fields.4.3.no_nul
reads_plain m (requests.Exec db statement params wide) r = tt
reads_plain m (requests.Query db statement params wide) r = tt
reads_plain m (requests.Finalize db statement) r = tt
reads_plain m (requests.ExecSql db sql params wide) r = r.fields.4.3.no_nul
reads_plain m (requests.QuerySql db sql params wide) r = r.fields.4.3.no_nul
reads_plain m (requests.Interrupt db) r = tt
reads_plain m (requests.Connect id address) r = tt
reads_plain m (requests.Add id address) r = r.fields.4.3.no_nul
reads_plain m (requests.Assign id role) r = tt
reads_plain m (requests.Remove id) r = tt
reads_plain m (requests.Dump name) r = r.fields.3.no_nul
reads_plain m (requests.Cluster format) r = tt
reads_plain m (requests.Transfer id) r = tt
reads_plain m (requests.Describe format) r = tt
reads_plain m (requests.Weight weight) r = tt

-- a fault that isn't out of memory is the one that reading gives
pub refused_reads : (fault : MsgFault) (reading : Result Request MsgFault) → Fails fault reading → fault ≢ faults.NoMemory → Err fault ≡ reading
refused_reads (faults.Kind kind) reading fails memory = sym fails
refused_reads (faults.Schema kind schema) reading fails memory = sym fails
refused_reads (faults.Word fault) reading fails memory = sym fails
refused_reads (faults.Tail words) reading fails memory = sym fails
refused_reads faults.NoMemory reading fails memory = absurd (memory refl)

-- ---- a session that may be asked

waits_none : {F L : Type 0} (there hung : Bool) (flight : Option F) (later : Option L) → (there && not hung && is_none flight && is_none later) ≡ true → (flight ≡ None) × (later ≡ None)
waits_none true false None None e = (refl, refl)
waits_none true false None (Some l) e = absurd cc
waits_none true false (Some f) later e = absurd cc
waits_none true true flight later e = absurd cc
waits_none false hung flight later e = absurd cc

-- it waits for nothing
asks_free : (s : Session) → may_ask s ≡ true → (s.flight ≡ None) × (s.later ≡ None)
unfolding may_ask
asks_free s ask = waits_none s.there s.hung s.flight s.later ask

-- the connection of a session that a request may be handed to is open
asks_open : (stream : Option Conn) (s : Session) → may_ask s ≡ true → Fits stream s → (c : Conn) × (stream ≡ Some c)
unfolding may_ask
asks_open (Some c) s ask fits = (c, refl)
asks_open None s ask fits = absurd (none s.there s.hung (is_none s.flight) (is_none s.later) ask (λ e. (fits.0 e).0)) where
  none : (there hung free rest : Bool) → (there && not hung && free && rest) ≡ true → (there ≡ true → hung ≡ true) → ⊥
  none true true free rest e h = cc
  none true false free rest e h = let wrong : false ≡ true = h refl in cc
  none false hung free rest e h = cc

-- the session whose message's turn it is may be handed a request
pub offered_asks : (k : Clients) (o : Offer) → IsOffered k o → Sound k → may_ask (k.sessions.session o.conn) ≡ true
unfolding may_ask
offered_asks k o i sound =
    let fits : Fits (Some i.stream) (k.sessions.session o.conn) = subst (λ (x : Option Conn). Fits x (k.sessions.session o.conn)) i.opens (sound.fits o.conn) in
    all _ _ _ _ fits.0 fits.1 i.idle where
      all : (there hung free rest : Bool) → there ≡ true → hung ≡ false → (not free || not rest) ≡ false → (there && not hung && free && rest) ≡ true
      all true false true true a b c = refl
      all true false true false a b c = absurd cc
      all true false false rest a b c = absurd cc
      all true true free rest a b c = absurd cc
      all false hung free rest a b c = absurd cc

-- ---- what comes of it can be sent

effect_sends : (effect : Effect) → ActCanSend (act_for effect)
effect_sends (HandsOver id) = tt
effect_sends (JoinsPeer id) = tt
effect_sends (Weighs weight) = ((tt, tt), tt)

pub is_sends : (v : View) (g : Gateway) (conn : ℕ) (turned : Turned) (now : Gateway) (act : Act) → Is v g conn turned now act → Keeps (g.session conn) turned → ActCanSend act
is_sends v g conn (Refused cause) now act is keeps = subst ActCanSend (sym is.1) (refusal_sent cause)
is_sends v g conn Lacks now act is keeps = absurd is
is_sends v g conn (Answers session reply note) now act is keeps = subst ActCanSend (sym is.1) keeps.1
is_sends v g conn (Proposes session contents note) now act is keeps = subst ActCanSend (sym is.1) tt
is_sends v g conn (Lends session job) now act is keeps = subst ActCanSend (sym is.1) tt
is_sends v g conn (Affects effect) now act is keeps = subst ActCanSend (sym is.1) (effect_sends effect)

-- the outcome of a request is kept
turned_kept : (m : Meaning) (kind : EngineKind) (v : View) (machine : Machine) (g : Gateway) (conn : ℕ) (request : Request) (before now : Option Told) (after : Gateway) (act : Act)
    → IsConfigured v → HasNoNul request → may_ask (g.session conn) ≡ true → (t : TurnsByAnswers (call_of m kind before now) (scene v machine g conn) request after act)
    → Keeps (g.session conn) (on_request v machine g conn request t.answers)
turned_kept m kind v machine g conn request before now after act configured text ask t =
    let waits = asks_free (g.session conn) ask in
    request_kept v machine g conn request t.answers configured text waits.0 waits.1

-- what comes of a request can be sent
pub turned_sends : (m : Meaning) (kind : EngineKind) (v : View) (machine : Machine) (g : Gateway) (conn : ℕ) (request : Request) (before now : Option Told) (after : Gateway) (act : Act)
    → IsConfigured v → HasNoNul request → may_ask (g.session conn) ≡ true → TurnsByAnswers (call_of m kind before now) (scene v machine g conn) request after act → ActCanSend act
turned_sends m kind v machine g conn request before now after act configured text ask t =
    is_sends v g conn (on_request v machine g conn request t.answers) after act t.is (turned_kept m kind v machine g conn request before now after act configured text ask t)

-- ---- what holds of clients holds after it

affected_sound : (k : Clients) (effect : Effect) → Sound k → Sound (with_sessions k (affected_by k.sessions effect))
affected_sound k (HandsOver id) sound = record { fits = sound.fits; sends = sound.sends; listed = sound.listed; awaits = sound.awaits }
affected_sound k (JoinsPeer id) sound = record { fits = sound.fits; sends = sound.sends; listed = sound.listed; awaits = sound.awaits }
affected_sound k (Weighs weight) sound = record { fits = sound.fits; sends = sound.sends; listed = sound.listed; awaits = sound.awaits }

same_sound : (k : Clients) (now then : Gateway) → now ≡ then → Sound (with_sessions k then) → Sound (with_sessions k now)
same_sound k now then e sound = subst (λ (g : Gateway). Sound (with_sessions k g)) (sym e) sound

-- the same sessions
pub still_sound : (k : Clients) (now : Gateway) → now ≡ k.sessions → Sound k → Sound (with_sessions k now)
still_sound k now e sound = same_sound k now k.sessions e (record { fits = sound.fits; sends = sound.sends; listed = sound.listed; awaits = sound.awaits })

-- the session that was put in place is as that which is there
set_listed : (g now : Gateway) (conn : ℕ) (s : Session) → now ≡ with_session g conn s → IsListed (now.session conn).tx → IsListed s.tx
unfolding with_session
set_listed g now conn s is listed =
    subst (λ (t : Session). IsListed t.tx) (ap (λ (h : Gateway). h.session conn) is ∙ ap (λ (b : Bool). cond b s (g.session conn)) (eq-eqb conn conn refl)) listed

pub is_sound : (v : View) (k : Clients) (conn : ℕ) (stream : Conn) (turned : Turned) (now : Gateway) (act : Act) → k.streams conn ≡ Some stream → Is v k.sessions conn turned now act
    → Keeps (k.sessions.session conn) turned → IsListed (now.session conn).tx → Sound k → Sound (with_sessions k now)
is_sound v k conn stream (Refused cause) now act opens is keeps listed sound = still_sound k now is.0 sound
is_sound v k conn stream Lacks now act opens is keeps listed sound = absurd is
is_sound v k conn stream (Answers s reply note) now act opens is keeps listed sound = same_sound k now _ is.0 (session_sound k conn stream s opens keeps.0 (set_listed k.sessions now conn s is.0 listed) sound)
is_sound v k conn stream (Proposes s contents note) now act opens is keeps listed sound = same_sound k now _ is.0 (session_sound k conn stream s opens keeps (set_listed k.sessions now conn s is.0 listed) sound)
is_sound v k conn stream (Lends s job) now act opens is keeps listed sound = same_sound k now _ is.0 (session_sound k conn stream s opens keeps (set_listed k.sessions now conn s is.0 listed) sound)
is_sound v k conn stream (Affects effect) now act opens is keeps listed sound = same_sound k now _ is.0 (affected_sound k effect sound)

-- after a request all is as it has to be
pub turned_sound : (m : Meaning) (kind : EngineKind) (v : View) (machine : Machine) (g : Gateway) (conn : ℕ) (request : Request) (before now : Option Told) (after : Gateway) (act : Act)
    → IsConfigured v → HasNoNul request → may_ask (g.session conn) ≡ true → ListsAsBefore g after → TurnsByAnswers (call_of m kind before now) (scene v machine g conn) request after act
    → (k : Clients) → k.sessions ≡ g → Sound k → Sound (with_sessions k after)
turned_sound m kind v machine g conn request before now after act configured text ask lists t k same sound =
    let asks : may_ask (k.sessions.session conn) ≡ true = subst (λ (h : Gateway). may_ask (h.session conn) ≡ true) (sym same) ask in
    let turned : TurnsByAnswers (call_of m kind before now) (scene v machine k.sessions conn) request after act = subst (λ (h : Gateway). TurnsByAnswers (call_of m kind before now) (scene v machine h conn) request after act) (sym same) t in
    let opens = asks_open (k.streams conn) (k.sessions.session conn) asks (sound.fits conn) in
    is_sound v k conn opens.0 (on_request v machine k.sessions conn request turned.answers) after act opens.1 turned.is
    (turned_kept m kind v machine k.sessions conn request before now after act configured text asks turned)
    (lists conn (subst (λ (h : Gateway). IsListed (h.session conn).tx) same (sound.listed conn))) sound

-- if nothing has changed, neither has what holds of clients
pub failed_sound : (g after : Gateway) → after ≡ g → (k : Clients) → k.sessions ≡ g → Sound k → Sound (with_sessions k after)
failed_sound g after failed k same sound = still_sound k after (failed ∙ sym same) sound
