-- The message whose turn it is, and what comes of it, as code handles them one after the other.
use Rattle.std.proofs.Common.{◌≡◌, ℕ, true, false, List, [], ◌∷◌, ◌++◌, Option, Some, None, Result, IfOk, refl, sym, ap, subst, ◌∙◌}
use Rattle.std.specs.Prelude.{IfSome, MatchOption}
use Rattle.std.specs.declared.alloc.AllocError.{AllocError}
use Rattle.std.specs.Ordering.{nat_cmp}
use Rattle.std.specs.BTreeMap.{get}
use Rattle.wire_words.specs.declared.message.Message.{Message}
use Rattle.wire_msgs.specs.declared.fault.MsgFault.{MsgFault}
use Rattle.wire_msgs.specs.declared.request.Request.{Request}
use Rattle.wire_msgs.specs.Reading.{request_of}
use Rattle.sql_engine.specs.Known.{Known}
use Rattle.sql_engine.specs.declared.kind.EngineKind.{EngineKind}
use Rattle.sql_engine.specs.Meanings.{Meaning, Told}
use Rattle.database_state.specs.declared.database.Database.{Database}
use Rattle.database_state.specs.Pins.{Pinning}
use Rattle.session_spec.specs.Machine.{Machine}
use Rattle.session_spec.specs.Sessions.{Gateway, View, Reply, may_ask, is_due, later_query, lent_query}
use Rattle.session_spec.specs.Touched.{IsListed}
use Rattle.session_table.specs.Marks.{AreMarks}
use Rattle.session_gateway.specs.Later.{first_due}
use Rattle.session_gateway.specs.Seen as gates
use Rattle.session_gateway.specs.Seen.{Held as Gate, seen, pins_of, PinsOf}
use Rattle.client_sessions.specs.declared.act.Act.{Act}
use Rattle.client_sessions.specs.declared.clients.Clients.{Clients as Held}
use Rattle.client_sessions.specs.Clients.{Clients, with_sessions, freed, Awaits, Sound}
use Rattle.client_sessions.specs.Calls.{TookNext, Comes, TookOffer}
use Rattle.client_sessions.specs.Later.{Resumes, Finishes}
use Rattle.client_sessions.specs.Seen.{clients_of, Agrees, AreValidOver}
use Rattle.client_sessions.proofs.Asking.{offered_asks}
use Rattle.client_sessions.proofs.Offers.{next_is_first}
use Rattle.client_sessions.proofs.Standing.{sound_as}
use Rattle.client_sessions.proofs.Taking.{took_sound, idle_sound}
use Rattle.session_statements.specs.Calls.{call_of}
use Rattle.session_outcomes.specs.Scenes.{scene}

-- ---- the message that was taken

-- the session of its connection may be asked
ready : (k mid : Clients) (took : ℕ × Message) → TookNext k mid (Some took) → Sound k → may_ask (mid.sessions.session took.0) ≡ true
ready k mid took t sound =
    let same : mid.sessions ≡ k.sessions = ap (λ (c : Clients). c.sessions) t.4 in
    subst (λ (conn : ℕ). may_ask (mid.sessions.session conn) ≡ true) t.2
    (subst (λ (g : Gateway). may_ask (g.session t.0.conn) ≡ true) (sym same) (offered_asks k t.0 (next_is_first k t.0 t.1) sound))

pub took_ready : (k mid : Clients) (took : Option (ℕ × Message)) → TookNext k mid took → Sound k → IfSome took (λ (t : ℕ × Message). may_ask (mid.sessions.session t.0) ≡ true)
took_ready k mid None t sound = tt
took_ready k mid (Some took) t sound = ready k mid took t sound

next_sound : (k mid : Clients) (took : Option (ℕ × Message)) → TookNext k mid took → Sound k → Sound mid
next_sound k mid None t sound = idle_sound k mid t.1 sound
next_sound k mid (Some took) t sound = took_sound k mid t.0 t.1 t.4 sound

pub took_stand : (old mid : Held) (databases : List Database) (took : Option (ℕ × Message)) → TookNext (clients_of old databases) (clients_of mid databases) took → mid.gateway ≡ old.gateway → AreValidOver old databases → AreValidOver mid databases
took_stand old mid databases took t same stand = record {
  pins = subst (λ (g : Gate). PinsOf g databases) (sym same) stand.pins;
  sound = next_sound (clients_of old databases) (clients_of mid databases) took t stand.sound;
}

pub took_agree : (known : List Known) (old mid : Held) (databases : List Database) → mid.gateway ≡ old.gateway → Agrees known old databases → Agrees known mid databases
took_agree known old mid databases same agree = subst (λ (g : Gate). gates.Agrees known g databases) (sym same) agree

-- what came of it
turn_taken : (m : Meaning) (kind : EngineKind) (v : View) (machine : Machine) (k mid new : Clients) (took : ℕ × Message) (before now : Option Told) (refused_before refused_now : ℕ) (act : Act) → TookNext k mid (Some took)
    → Comes (call_of m kind before now) (scene v machine mid.sessions took.0) (request_of took.1) refused_before refused_now new.sessions act → new ≡ with_sessions mid new.sessions → TookOffer (call_of m kind before now) v machine k refused_before refused_now new act
turn_taken m kind v machine k mid new took before now refused_before refused_now act t came rest =
    let same : mid.sessions ≡ k.sessions = ap (λ (c : Clients). c.sessions) t.4 in
    let at_sessions = subst (λ (g : Gateway). Comes (call_of m kind before now) (scene v machine g took.0) (request_of took.1) refused_before refused_now new.sessions act) same came in
    let at_conn = subst (λ (conn : ℕ). Comes (call_of m kind before now) (scene v machine k.sessions conn) (request_of took.1) refused_before refused_now new.sessions act) (sym t.2) at_sessions in
    record {
      offer = t.0;
      next = t.1;
      came = subst (λ (message : Message). Comes (call_of m kind before now) (scene v machine k.sessions t.0.conn) (request_of message) refused_before refused_now new.sessions act) (sym t.3) at_conn;
      rest = rest ∙ ap (λ (c : Clients). with_sessions c new.sessions) t.4;
    }

pub turn_answered : (m : Meaning) (kind : EngineKind) (v : View) (machine : Machine) (k mid new : Clients) (took : ℕ × Message) (asked : Result Request MsgFault) (before now : Option Told) (refused_before refused_now : ℕ) (act : Act) → TookNext k mid (Some took)
    → asked ≡ request_of took.1 → Comes (call_of m kind before now) (scene v machine mid.sessions took.0) asked refused_before refused_now new.sessions act → new ≡ with_sessions mid new.sessions → TookOffer (call_of m kind before now) v machine k refused_before refused_now new act
turn_answered m kind v machine k mid new took asked before now refused_before refused_now act t read came rest =
    turn_taken m kind v machine k mid new took before now refused_before refused_now act t
    (subst (λ (r : Result Request MsgFault). Comes (call_of m kind before now) (scene v machine mid.sessions took.0) r refused_before refused_now new.sessions act) read came) rest

-- ---- over what code holds

pub ready_held : (held : Held) (databases : List Database) (conn : ℕ) → may_ask ((clients_of held databases).sessions.session conn) ≡ true → may_ask ((seen held.gateway databases).session conn) ≡ true
unfolding clients_of
ready_held held databases conn ready = ready

pub listed_held : (held : Held) (databases : List Database) (conn : ℕ) → AreValidOver held databases → IsListed ((seen held.gateway databases).session conn).tx
unfolding clients_of
listed_held held databases conn stand = stand.sound.listed conn

pub awaits_held : (held : Held) (databases : List Database) (conn : ℕ) → AreValidOver held databases
    → Awaits ((seen held.gateway databases).session conn).database ((seen held.gateway databases).session conn).flight ((seen held.gateway databases).session conn).later
unfolding clients_of
awaits_held held databases conn stand = stand.sound.awaits conn

pub came_held : (m : Meaning) (kind : EngineKind) (v : View) (machine : Machine) (old new : Held) (before after : List Database) (conn : ℕ) (asked : Result Request MsgFault) (told_before told_now : Option Told) (refused_before refused_now : ℕ) (r : Result Act AllocError)
    → IfOk r (Comes (call_of m kind told_before told_now) (scene v machine (seen old.gateway before) conn) asked refused_before refused_now (seen new.gateway after))
    → IfOk r (Comes (call_of m kind told_before told_now) (scene v machine (clients_of old before).sessions conn) asked refused_before refused_now (clients_of new after).sessions)
unfolding clients_of
came_held m kind v machine old new before after conn asked told_before told_now refused_before refused_now r came = came

pub due_held : (held : Held) (databases : List Database) (r : Option ℕ)
    → MatchOption r ((conn : ℕ) → is_due ((seen held.gateway databases).session conn).later ≡ false) (λ (conn : ℕ). first_due (seen held.gateway databases) ≡ Some conn)
    → MatchOption r ((conn : ℕ) → is_due ((clients_of held databases).sessions.session conn).later ≡ false) (λ (conn : ℕ). first_due (clients_of held databases).sessions ≡ Some conn)
unfolding clients_of
due_held held databases r due = due

pub resumes_held : (m : Meaning) (kind : EngineKind) (v : View) (machine : Machine) (old new : Held) (before after : List Database) (conn : ℕ) (told_before told_now : Option Told) (refused_before refused_now : ℕ) (given act : Option Act) → given ≡ act
    → Resumes (call_of m kind told_before told_now) (scene v machine (seen old.gateway before) conn) (later_query ((seen old.gateway before).session conn).later) refused_before refused_now (seen new.gateway after) given
    → Resumes (call_of m kind told_before told_now) (scene v machine (clients_of old before).sessions conn) (later_query ((clients_of old before).sessions.session conn).later) refused_before refused_now (clients_of new after).sessions act
unfolding clients_of
resumes_held m kind v machine old new before after conn told_before told_now refused_before refused_now given act is resumes =
    subst (λ (a : Option Act). Resumes (call_of m kind told_before told_now) (scene v machine (seen old.gateway before) conn) (later_query ((seen old.gateway before).session conn).later) refused_before refused_now (seen new.gateway after) a) is resumes

pub finishes_held : (old new : Held) (databases : List Database) (conn : ℕ) (reply : Option Reply) (given act : Option Act) → given ≡ act
    → Finishes (seen old.gateway databases) conn (lent_query ((seen old.gateway databases).session conn).later) reply (seen new.gateway databases) given
    → Finishes (clients_of old databases).sessions conn (lent_query ((clients_of old databases).sessions.session conn).later) reply (clients_of new databases).sessions act
unfolding clients_of
finishes_held old new databases conn reply given act is finishes =
    subst (λ (a : Option Act). Finishes (seen old.gateway databases) conn (lent_query ((seen old.gateway databases).session conn).later) reply (seen new.gateway databases) a) is finishes

no_more : (turns : List ℕ) → turns ≡ turns ++ []
no_more [] = refl
no_more (conn ∷ turns) = ap (λ (ts : List ℕ). conn ∷ ts) (no_more turns)

-- other sessions, and these turns more
pub turned_held : (old new : Held) (before after : List Database) (turns : List ℕ) → ((q : ℕ) → get nat_cmp new.connections q ≡ get nat_cmp old.connections q) → new.turns.items ≡ old.turns.items ++ turns
    → clients_of new after ≡ freed (clients_of old before) (clients_of new after).sessions turns
unfolding clients_of
turned_held old new before after turns streams same = λ i. record { sessions = seen new.gateway after; streams = λ q. streams q i; turns = same i }

-- other sessions, and nothing else
pub rest_held : (old new : Held) (before after : List Database) → ((q : ℕ) → get nat_cmp new.connections q ≡ get nat_cmp old.connections q) → new.turns.items ≡ old.turns.items
    → clients_of new after ≡ with_sessions (clients_of old before) (clients_of new after).sessions
unfolding clients_of
rest_held old new before after streams same = λ i. record { sessions = seen new.gateway after; streams = λ q. streams q i; turns = same i }

pub came_stand : (old new : Held) (before after : List Database) → AreValidOver old before → ((k : Clients) → k.sessions ≡ seen old.gateway before → Sound k → Sound (with_sessions k (seen new.gateway after)))
    → ((q : ℕ) → get nat_cmp new.connections q ≡ get nat_cmp old.connections q) → PinsOf new.gateway after → AreValidOver new after
unfolding clients_of
came_stand old new before after stand keeps streams pins = record {
  pins = pins;
  sound = sound_as (clients_of new after) (with_sessions (clients_of old before) (seen new.gateway after)) refl streams (keeps (clients_of old before) refl stand.sound);
}

pub idle_held : (old new : Held) (before after : List Database) → ((q : ℕ) → get nat_cmp new.connections q ≡ get nat_cmp old.connections q) → new.turns.items ≡ old.turns.items
    → clients_of new after ≡ freed (clients_of old before) (clients_of new after).sessions []
idle_held old new before after streams same = turned_held old new before after [] streams (same ∙ no_more old.turns.items)

-- the same, over a state machine that hasn't changed
pub read_stand : (old new : Held) (databases : List Database) → AreValidOver old databases → ((k : Clients) → k.sessions ≡ seen old.gateway databases → Sound k → Sound (with_sessions k (seen new.gateway databases)))
    → ((q : ℕ) → get nat_cmp new.connections q ≡ get nat_cmp old.connections q) → pins_of new.gateway ≡ pins_of old.gateway → AreValidOver new databases
read_stand old new databases stand keeps streams pins =
    came_stand old new databases databases stand keeps streams (subst (λ (ps : List Pinning). AreMarks ps databases) (sym pins) stand.pins)
