-- Taking the message whose turn it is, as code does it.
use Rattle.std.proofs.Common.{◌≡◌, ℕ, ◌<◌, true, false, cond, List, [], ◌∷◌, length, drop, Option, Some, None, refl, sym, ap, subst, ◌∙◌, arith}
use Rattle.std.specs.Prelude.{slice_index_or}
use Rattle.std.specs.Ordering.{nat_cmp}
use Rattle.std.specs.BTreeMap.{get, is_at}
use Rattle.std.specs.Map.{set_value}
use Rattle.wire_words.specs.declared.message.Message.{Message}
use Rattle.client_connection.specs.Connection.{Conn, TakesFirst}
use Rattle.database_state.specs.declared.database.Database.{Database}
use Rattle.session_spec.specs.Sessions.{is_busy}
use Rattle.session_gateway.specs.Seen.{seen}
use Rattle.client_sessions.specs.declared.clients.Clients.{Clients as Held}
use Rattle.client_sessions.specs.Clients.{Clients, Offer, next_offer, taken, Sound}
use Rattle.client_sessions.specs.Calls.{TookFrom, TookNext}
use Rattle.client_sessions.specs.Seen.{clients_of}
use Rattle.client_sessions.proofs.Offers.{next_is_first}
use Rattle.client_sessions.proofs.Soundness.{stream_sound, turns_sound}
use Rattle.client_sessions.proofs.Standing.{alike, updated, entries_alike, put_back}
use Rattle.client_sessions.proofs.Turns.{busy_none, closed_none, idle_none, message_offered, Skipped, skip_start, skip_more, skip_end, skip_found}

-- ---- from one connection

pub none_busy : (held : Held) (databases : List Database) (conn : ℕ) (turns : List ℕ) → is_busy ((seen held.gateway databases).session conn) ≡ true → TookFrom (clients_of held databases) (clients_of held databases) conn turns None
unfolding clients_of
none_busy held databases conn turns busy = (busy_none (clients_of held databases) conn turns busy, refl)

pub none_closed : (old new : Held) (databases : List Database) (conn : ℕ) (turns : List ℕ) → is_busy ((seen old.gateway databases).session conn) ≡ false → get nat_cmp old.connections conn ≡ None
    → clients_of new databases ≡ clients_of old databases → TookFrom (clients_of old databases) (clients_of new databases) conn turns None
unfolding clients_of
none_closed old new databases conn turns idle none same = (closed_none (clients_of old databases) conn turns idle none, same)

pub none_waits : (old new : Held) (databases : List Database) (conn : ℕ) (turns : List ℕ) (stream : Conn) → is_busy ((seen old.gateway databases).session conn) ≡ false → get nat_cmp old.connections conn ≡ Some stream
    → stream.waiting ≡ [] → clients_of new databases ≡ clients_of old databases → TookFrom (clients_of old databases) (clients_of new databases) conn turns None
unfolding clients_of
none_waits old new databases conn turns stream idle is none same = (idle_none (clients_of old databases) conn turns stream idle is none, same)

pub first_took : (old new : Held) (databases : List Database) (conn : ℕ) (turns : List ℕ) (stream rest : Conn) (m : Message) → is_busy ((seen old.gateway databases).session conn) ≡ false → get nat_cmp old.connections conn ≡ Some stream
    → stream ≡ record { end = rest.end; waiting = m ∷ rest.waiting; full = rest.full } → seen new.gateway databases ≡ seen old.gateway databases
    → ((q : ℕ) → get nat_cmp new.connections q ≡ cond (is_at (nat_cmp conn) q) (Some rest) (get nat_cmp old.connections q)) → new.turns.items ≡ old.turns.items
    → TookFrom (clients_of old databases) (clients_of new databases) conn turns (Some m)
unfolding clients_of
first_took old new databases conn turns stream rest m idle is first sessions streams same =
    (rest, message_offered (clients_of old databases) conn turns stream rest m idle is first, alike _ _ sessions (updated old.connections new.connections conn (Some rest) streams) same)

-- by what the stream gave
pub took_by : (old new : Held) (databases : List Database) (conn : ℕ) (turns : List ℕ) (stream rest : Conn) (r : Option Message) → is_busy ((seen old.gateway databases).session conn) ≡ false
    → Some stream ≡ get nat_cmp old.connections conn → TakesFirst stream rest r → seen new.gateway databases ≡ seen old.gateway databases
    → new.connections.entries ≡ set_value (is_at (nat_cmp conn)) old.connections.entries rest
    → ((q : ℕ) → get nat_cmp new.connections q ≡ cond (is_at (nat_cmp conn) q) (Some rest) (get nat_cmp old.connections q)) → new.turns.items ≡ old.turns.items
    → TookFrom (clients_of old databases) (clients_of new databases) conn turns r
took_by old new databases conn turns stream rest None idle is takes sessions entries streams same =
    none_waits old new databases conn turns stream idle (sym is) takes.0
    (entries_alike old new databases databases sessions (put_back old.connections.entries new.connections.entries conn stream rest entries is takes.1) same)
took_by old new databases conn turns stream rest (Some m) idle is takes sessions entries streams same =
    first_took old new databases conn turns stream rest m idle (sym is) takes sessions streams same

-- ---- over those in turn

-- the front of a queue
pub front_is : (turns : List ℕ) (conn : ℕ) → 0 < length turns → conn ≡ slice_index_or turns 0 conn → turns ≡ conn ∷ drop 1 turns
front_is [] conn some is = absurd (omega (arith, some))
front_is (x ∷ xs) conn some is = ap (λ (n : ℕ). n ∷ xs) (sym is)

pub front_none : (turns : List ℕ) → (0 < length turns → ⊥) → turns ≡ []
front_none [] none = refl
front_none (x ∷ xs) none = absurd (none (omega arith))

pub fewer : (turns left rest : List ℕ) → left ≡ turns → rest ≡ drop 1 left → 0 < length turns → length rest < length turns
fewer [] left rest same is some = absurd (omega (arith, some))
fewer (x ∷ xs) left rest same is some =
    let short : length rest ≡ length xs = ap (λ (ts : List ℕ). length ts) (is ∙ ap (λ (ts : List ℕ). drop 1 ts) same) in
    omega (arith, short)

-- Connections in turn that had nothing were let go.
pub record Searched (old now : Held) : Type 0 where
  pub skipped : (databases : List Database) → Skipped (clients_of old databases) (clients_of now databases)
  pub gateway : now.gateway ≡ old.gateway

pub searched_start : (held : Held) → Searched held held
searched_start held = record { skipped = λ databases. skip_start (clients_of held databases); gateway = refl }

-- one more of them, which had nothing
pub searched_more : (old now left popped : Held) (conn : ℕ) → Searched old now → 0 < length now.turns.items → conn ≡ slice_index_or now.turns.items 0 conn
    → ((databases : List Database) (turns : List ℕ) → TookFrom (clients_of now databases) (clients_of left databases) conn turns None) → left.gateway ≡ now.gateway → left.turns.items ≡ now.turns.items
    → popped.gateway ≡ left.gateway → popped.connections ≡ left.connections → popped.turns.items ≡ drop 1 left.turns.items → Searched old popped
unfolding clients_of
searched_more old now left popped conn s some front none gateway turns same_gateway same_connections rest = record {
  skipped = λ databases.
      let same = (none databases (drop 1 now.turns.items)).1 in
      skip_more (clients_of old databases) (clients_of now databases) (clients_of popped databases) conn (drop 1 now.turns.items) (s.skipped databases) (front_is now.turns.items conn some front)
      (none databases (drop 1 now.turns.items)).0
      (ap (λ g. seen g databases) same_gateway ∙ ap (λ (k : Clients). k.sessions) same)
      (ap {B = ℕ → Option Conn} (λ m q. get nat_cmp m q) same_connections ∙ ap (λ (k : Clients). k.streams) same)
      (rest ∙ ap (λ (ts : List ℕ). drop 1 ts) turns);
  gateway = same_gateway ∙ gateway ∙ s.gateway;
}

pub searched_end : (old now : Held) (databases : List Database) → Searched old now → (0 < length now.turns.items → ⊥) → TookNext (clients_of old databases) (clients_of now databases) None
unfolding clients_of
searched_end old now databases s none = skip_end (clients_of old databases) (clients_of now databases) (s.skipped databases) (front_none now.turns.items none)

pub searched_found : (old now new : Held) (databases : List Database) (conn : ℕ) (m : Message) → Searched old now → 0 < length now.turns.items → conn ≡ slice_index_or now.turns.items 0 conn
    → ((turns : List ℕ) → TookFrom (clients_of now databases) (clients_of new databases) conn turns (Some m)) → TookNext (clients_of old databases) (clients_of new databases) (Some (conn, m))
unfolding clients_of
searched_found old now new databases conn m s some front took =
    skip_found (clients_of old databases) (clients_of now databases) (clients_of new databases) conn (drop 1 now.turns.items) m (s.skipped databases) (front_is now.turns.items conn some front) (took (drop 1 now.turns.items))

pub turns_of : (held : Held) (databases : List Database) → (clients_of held databases).turns ≡ held.turns.items
unfolding clients_of
turns_of held databases = refl

-- ---- clients stay sound

pub took_sound : (old new : Clients) (offer : Offer) → next_offer old ≡ Some offer → new ≡ taken old (Some offer) → Sound old → Sound new
took_sound old new offer next is sound =
    let i = next_is_first old offer next in
    subst Sound (sym is) (stream_sound old offer.conn i.stream offer.stream offer.turns i.opens sound)

pub idle_sound : (old new : Clients) → new ≡ taken old None → Sound old → Sound new
idle_sound old new is sound = subst Sound (sym is) (turns_sound old [] sound)
