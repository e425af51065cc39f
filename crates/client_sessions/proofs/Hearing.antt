-- Bytes that come on a connection, and why one is to be closed.
use Rattle.std.proofs.Common.{◌≡◌, ℕ, cond, List, [], ◌∷◌, ◌++◌, Option, Some, None, is_none, refl, sym, ap, subst, ◌∙◌}
use Rattle.std.specs.Ordering.{nat_cmp}
use Rattle.std.specs.BTreeMap.{get, is_at}
use Rattle.client_connection.specs.declared.connection.CloseReason.{CloseReason}
use Rattle.client_connection.specs.Connection.{Conn, received}
use Rattle.database_state.specs.declared.database.Database.{Database}
use Rattle.session_gateway.specs.Seen.{seen, PinsOf}
use Rattle.client_sessions.specs.declared.clients.Clients.{Clients as Held}
use Rattle.client_sessions.specs.Clients.{Clients, with_stream, heard, heard_on, without, hung_up, closing, closed, Sound}
use Rattle.client_sessions.specs.Seen.{clients_of, AreValidOver}
use Rattle.client_sessions.proofs.Soundness.{stream_sound}
use Rattle.client_sessions.proofs.Standing.{alike, updated, hung_open}

pub heard_open : (k : Clients) (conn : ℕ) (bytes : List ℕ) (stream : Conn) → k.streams conn ≡ Some stream → heard k conn bytes ≡ heard_on k conn bytes (Some stream)
unfolding heard
heard_open k conn bytes stream opens = ap (heard_on k conn bytes) opens

pub heard_closed : (k : Clients) (conn : ℕ) (bytes : List ℕ) → k.streams conn ≡ None → heard k conn bytes ≡ k
unfolding heard
heard_closed k conn bytes none = ap (heard_on k conn bytes) none

pub heard_held : (old new : Held) (databases : List Database) (conn : ℕ) (bytes : List ℕ) (stream after : Conn) → Some stream ≡ get nat_cmp old.connections conn → after ≡ received stream bytes → seen new.gateway databases ≡ seen old.gateway databases
    → ((q : ℕ) → get nat_cmp new.connections q ≡ cond (is_at (nat_cmp conn) q) (Some after) (get nat_cmp old.connections q)) → new.turns.items ≡ old.turns.items ++ conn ∷ []
    → clients_of new databases ≡ heard (clients_of old databases) conn bytes
unfolding clients_of
heard_held old new databases conn bytes stream after is goes sessions streams turns =
    alike _ _ sessions (updated old.connections new.connections conn (Some after) streams) turns
    ∙ ap (λ (c : Conn). record { sessions = seen old.gateway databases; streams = with_stream (λ q. get nat_cmp old.connections q) conn (Some c); turns = old.turns.items ++ conn ∷ [] }) goes
    ∙ sym (heard_open (clients_of old databases) conn bytes stream (sym is))

heard_where : (k : Clients) (conn : ℕ) (bytes : List ℕ) (stream : Option Conn) → k.streams conn ≡ stream → Sound k → Sound (heard_on k conn bytes stream)
heard_where k conn bytes None is sound = sound
heard_where k conn bytes (Some stream) is sound = stream_sound k conn stream (received stream bytes) (k.turns ++ conn ∷ []) is sound

pub heard_sound : (k : Clients) (conn : ℕ) (bytes : List ℕ) → Sound k → Sound (heard k conn bytes)
unfolding heard
heard_sound k conn bytes sound = heard_where k conn bytes (k.streams conn) refl sound

pub heard_stand : (old new : Held) (databases : List Database) (conn : ℕ) (bytes : List ℕ) → clients_of new databases ≡ heard (clients_of old databases) conn bytes → PinsOf new.gateway databases
    → AreValidOver old databases → AreValidOver new databases
heard_stand old new databases conn bytes goes pins stand = record {
  pins = pins;
  sound = subst Sound (sym goes) (heard_sound (clients_of old databases) conn bytes stand.sound);
}

-- ---- why a connection is to be closed

pub closed_open : (k : Clients) (conn : ℕ) (reason : CloseReason) → closing (k.streams conn) ≡ Some reason → closed k conn ≡ without k conn
unfolding closed
closed_open k conn reason is = ap (λ (o : Option CloseReason). cond (is_none o) k (without k conn)) is

pub closed_none : (k : Clients) (conn : ℕ) → closing (k.streams conn) ≡ None → closed k conn ≡ k
unfolding closed
closed_none k conn none = ap (λ (o : Option CloseReason). cond (is_none o) k (without k conn)) none

pub closing_held : (held : Held) (databases : List Database) (conn : ℕ) (stream : Option Conn) → stream ≡ get nat_cmp held.connections conn → closing stream ≡ closing ((clients_of held databases).streams conn)
unfolding clients_of
closing_held held databases conn stream is = ap closing is

-- a connection that is to be closed is open
pub closes : (stream : Option Conn) (reason : CloseReason) → closing stream ≡ Some reason → (c : Conn) × (stream ≡ Some c)
closes None reason is = absurd cc
closes (Some c) reason is = (c, refl)

pub closed_is_hung : (k : Clients) (conn : ℕ) (reason : CloseReason) → closing (k.streams conn) ≡ Some reason → closed k conn ≡ hung_up k conn
closed_is_hung k conn reason is =
    let opens = closes (k.streams conn) reason is in
    closed_open k conn reason is ∙ sym (hung_open k conn opens.0 opens.1)
