-- What holds of clients at all times, over each thing that happens to them.
use Rattle.std.proofs.Common.{◌≡◌, ℕ, Bool, true, false, cond, not, ◌||◌, ◌==◌, List, Option, Some, None, is_none, refl, sym, ap, subst, ◌∙◌, eqb-true}
use Rattle.client_connection.specs.Connection.{Conn, opened}
use Rattle.session_spec.specs.Sessions.{Kind, Opening, Configuring, Writing, Committing, Querying, Flight, Later, Due, Lent, Session, absent, fresh, is_flying, is_busy}
use Rattle.session_spec.specs.Requests.{with_session}
use Rattle.session_spec.specs.Events.{tidy, landed, settled_by, on_applied, still_lent, on_lost, left, on_hangup, connected}
use Rattle.client_sessions.specs.Sending.{FlightCanSend}
use Rattle.client_sessions.specs.Clients.{Clients, no_clients, with_stream, joining, joined, joined_as, without, with_sessions, freed, Fits, KindIsOpened, Awaits, Sound}
use Rattle.client_sessions.specs.declared.connect_result.ConnectResult.{ConnectResult}
use Rattle.client_sessions.specs.declared.connect_result.ConnectResult.TheVariants.{Joined, Full, Taken}
use Rattle.session_spec.specs.Touched.{IsListed}
use Rattle.client_sessions.proofs.Requests.{Follows}

-- a session fits its connection, its proposal's reply can be sent, its transaction is listed, and it waits for one thing
record Good (stream : Option Conn) (s : Session) : Type 0 where
  fits : Fits stream s
  sends : FlightCanSend s.flight
  listed : IsListed s.tx
  awaits : Awaits s.database s.flight s.later

good_at : (k : Clients) → Sound k → (conn : ℕ) → Good (k.streams conn) (k.sessions.session conn)
good_at k sound conn = record { fits = sound.fits conn; sends = sound.sends conn; listed = sound.listed conn; awaits = sound.awaits conn }

sound_by : (k : Clients) → ((conn : ℕ) → Good (k.streams conn) (k.sessions.session conn)) → Sound k
sound_by k good = record { fits = λ conn. (good conn).fits; sends = λ conn. (good conn).sends; listed = λ conn. (good conn).listed; awaits = λ conn. (good conn).awaits }

-- nothing is there
absent_good : Good None absent
absent_good = record { fits = (λ there. absurd (cc there), λ busy. absurd (cc busy)); sends = tt; listed = tt; awaits = tt }

pub none_sound : Sound no_clients
none_sound = sound_by no_clients (λ conn. absent_good)

-- one place of both tables is changed
good_where : (b : Bool) (stream other_stream : Option Conn) (s other : Session) → Good stream s → Good other_stream other → Good (cond b stream other_stream) (cond b s other)
good_where true stream other_stream s other g h = g
good_where false stream other_stream s other g h = h

-- ---- connections that come and go

joined_good : (k : Clients) (conn : ℕ) (how : ConnectResult) → Sound k → Sound (joined_as k conn how)
unfolding connected
joined_good k conn Joined sound =
    sound_by (joined_as k conn Joined) (λ other.
    good_where (other == conn) (Some opened) (k.streams other) fresh (k.sessions.session other) (record { fits = (refl, refl); sends = tt; listed = tt; awaits = tt }) (good_at k sound other))
joined_good k conn Full sound = sound
joined_good k conn Taken sound = sound

pub joined_sound : (k : Clients) (conn : ℕ) → Sound k → Sound (joined k conn)
joined_sound k conn sound = joined_good k conn (joining k.sessions conn) sound

left_good : (s : Session) (flight : Option Flight) → s.flight ≡ flight → s.there ≡ true → FlightCanSend s.flight → IsListed s.tx → Awaits s.database s.flight s.later → Good None (left s flight)
left_good s None e there sends listed awaits = absent_good
left_good s (Some f) e there sends listed awaits =
    record { fits = (λ stays. (refl, ap (λ (o : Option Flight). not (is_none o)) e), λ busy. there); sends = sends; listed = listed; awaits = awaits }

-- the session of an open connection is there, and hasn't hung up
pub open_there : (k : Clients) (conn : ℕ) (stream : Conn) → k.streams conn ≡ Some stream → Sound k → ((k.sessions.session conn).there ≡ true) × ((k.sessions.session conn).hung ≡ false)
open_there k conn stream opens sound = subst (λ (x : Option Conn). Fits x (k.sessions.session conn)) opens (sound.fits conn)

pub without_sound : (k : Clients) (conn : ℕ) (stream : Conn) → k.streams conn ≡ Some stream → Sound k → Sound (without k conn)
unfolding on_hangup tidy
without_sound k conn stream opens sound =
    sound_by (without k conn) (λ other.
    good_where (other == conn) None (k.streams other) (left (k.sessions.session conn) (k.sessions.session conn).flight) (k.sessions.session other)
    (left_good (k.sessions.session conn) (k.sessions.session conn).flight refl (open_there k conn stream opens sound).0 (sound.sends conn) (sound.listed conn) (sound.awaits conn)) (good_at k sound other))

-- ---- streams

-- an open connection stays opens with another stream
stream_good : (b : Bool) (old : Option Conn) (stream : Conn) (s : Session) → (b ≡ true → (c : Conn) × (old ≡ Some c)) → Good old s → Good (cond b (Some stream) old) s
stream_good true old stream s opens g = let o = opens refl in record { fits = subst (λ (x : Option Conn). Fits x s) o.1 g.fits; sends = g.sends; listed = g.listed; awaits = g.awaits }
stream_good false old stream s opens g = g

-- the stream of an open connection changes, and whose turn it is
pub stream_sound : (k : Clients) (conn : ℕ) (old stream : Conn) (turns : List ℕ) → k.streams conn ≡ Some old → Sound k
    → Sound (record { sessions = k.sessions; streams = with_stream k.streams conn (Some stream); turns = turns })
stream_sound k conn old stream turns opens sound =
    sound_by (record { sessions = k.sessions; streams = with_stream k.streams conn (Some stream); turns = turns }) (λ other.
    stream_good (other == conn) (k.streams other) stream (k.sessions.session other)
    (λ same. (old, ap k.streams (eqb-true other conn same) ∙ opens)) (good_at k sound other))

pub turns_sound : (k : Clients) (turns : List ℕ) → Sound k → Sound (record { sessions = k.sessions; streams = k.streams; turns = turns })
turns_sound k turns sound = record { fits = sound.fits; sends = sound.sends; listed = sound.listed; awaits = sound.awaits }

-- ---- requests

-- a session of an open connection changes as by a request
session_good : (b : Bool) (old : Option Conn) (s other : Session) (before : Session) → (b ≡ true → (c : Conn) × (old ≡ Some c)) → (b ≡ true → other ≡ before) → Follows before s → IsListed s.tx → Good old other → Good old (cond b s other)
session_good true old s other before opens same follows listed g =
    let o = opens refl in
    let fits : Fits (Some o.0) before = subst (λ (x : Session). Fits (Some o.0) x) (same refl) (subst (λ (x : Option Conn). Fits x other) o.1 g.fits) in
    record {
      fits = subst (λ (x : Option Conn). Fits x s) (sym o.1) (follows.there ∙ fits.0, follows.hung ∙ fits.1);
      sends = follows.sends;
      listed = listed;
      awaits = follows.awaits;
    }
session_good false old s other before opens same follows listed g = g

pub session_sound : (k : Clients) (conn : ℕ) (stream : Conn) (s : Session) → k.streams conn ≡ Some stream → Follows (k.sessions.session conn) s → IsListed s.tx → Sound k
    → Sound (with_sessions k (with_session k.sessions conn s))
unfolding with_session
session_sound k conn stream s opens follows listed sound =
    sound_by (with_sessions k (with_session k.sessions conn s)) (λ other.
    session_good (other == conn) (k.streams other) s (k.sessions.session other) (k.sessions.session conn)
    (λ same. (stream, ap k.streams (eqb-true other conn same) ∙ opens)) (λ same. ap k.sessions.session (eqb-true other conn same)) follows listed (good_at k sound other))

-- ---- entries that are applied, and leadership that is lost

-- A session that hasn't hung up continues, with no proposal.
record Frees (s after : Session) : Type 0 where
  there : after.there ≡ s.there
  hung : after.hung ≡ s.hung
  busy : is_busy after ≡ true → is_busy s ≡ true
  sends : FlightCanSend after.flight
  listed : IsListed after.tx
  awaits : Awaits after.database after.flight after.later

freed_good : (stream : Option Conn) (s after : Session) → s.hung ≡ false → Frees s after → Good stream s → Good stream after
freed_good None s after stays f g =
    let away : s.there ≡ true → ⊥ = λ t. let hung = (g.fits.0 t).0 in absurd (cc (hung, stays)) in
    record { fits = (λ t. absurd (away (sym f.there ∙ t)), λ busy. absurd (away (g.fits.1 (f.busy busy)))); sends = f.sends; listed = f.listed; awaits = f.awaits }
freed_good (Some c) s after stays f g = record { fits = (f.there ∙ g.fits.0, f.hung ∙ g.fits.1); sends = f.sends; listed = f.listed; awaits = f.awaits }

-- a session that has hung up goes
gone_good : (stream : Option Conn) (s : Session) → s.hung ≡ true → Good stream s → Good stream absent
gone_good None s hung g = absent_good
gone_good (Some c) s hung g = let stays = g.fits.1 in absurd (cc (hung, stays))

-- if a proposal is pending, no query waits for its answer
flies_alone : (database : List ℕ) (f : Flight) (later : Option Later) → Awaits database (Some f) later → (later ≡ None) × KindIsOpened database f.kind
flies_alone database f None awaits = (refl, awaits)
flies_alone database f (Some later) awaits = absurd awaits

awaits_none : (database : List ℕ) (later : Option Later) → later ≡ None → Awaits database None later
awaits_none database later none = subst (λ (l : Option Later). Awaits database None l) (sym none) tt

module _ (s : Session) (f : Flight) (flight : s.flight ≡ Some f) (listed : IsListed s.tx) (alone : (s.later ≡ None) × KindIsOpened s.database f.kind) where
  flies : is_busy s ≡ true
  flies = ap (λ (o : Option Flight). not (is_none o) || not (is_none s.later)) flight

  landed_frees : (kind : Kind) → f.kind ≡ kind → Frees s (landed s f kind)
  landed_frees Opening is = record { there = refl; hung = refl; busy = λ busy. flies; sends = tt; listed = listed; awaits = awaits_none f.name s.later alone.0 }
  landed_frees (Configuring short) is = record { there = refl; hung = refl; busy = λ busy. flies; sends = tt; listed = listed; awaits = awaits_none s.database s.later alone.0 }
  landed_frees (Writing reply) is = record { there = refl; hung = refl; busy = λ busy. flies; sends = tt; listed = listed; awaits = awaits_none s.database s.later alone.0 }
  landed_frees Committing is = record { there = refl; hung = refl; busy = λ busy. flies; sends = tt; listed = tt; awaits = awaits_none s.database s.later alone.0 }
  landed_frees (Querying statement) is = record { there = refl; hung = refl; busy = λ busy. flies; sends = tt; listed = listed; awaits = subst (KindIsOpened s.database) is alone.1 }

done_good : (b : Bool) (stream : Option Conn) (s : Session) (f : Flight) → s.hung ≡ b → s.flight ≡ Some f → Good stream s → Good stream (cond b absent (landed s f f.kind))
done_good true stream s f hung flight g = gone_good stream s hung g
done_good false stream s f hung flight g =
    freed_good stream s _ hung
    (landed_frees s f flight g.listed (flies_alone s.database f s.later (subst (λ (o : Option Flight). Awaits s.database o s.later) flight g.awaits)) f.kind refl) g

settled_where : (b : Bool) (stream : Option Conn) (s : Session) (f : Flight) → s.flight ≡ Some f → Good stream s → Good stream (cond b (cond s.hung absent (landed s f f.kind)) s)
settled_where true stream s f flight g = done_good s.hung stream s f refl flight g
settled_where false stream s f flight g = g

settled_good : (stream : Option Conn) (index : ℕ) (s : Session) (flight : Option Flight) → s.flight ≡ flight → Good stream s → Good stream (settled_by index s flight)
settled_good stream index s None is g = g
settled_good stream index s (Some f) is g = settled_where (f.last == index) stream s f is g

pub applied_sound : (k : Clients) (index : ℕ) (conns : List ℕ) → Sound k → Sound (freed k (on_applied index k.sessions) conns)
unfolding on_applied tidy
applied_sound k index conns sound =
    sound_by (freed k (on_applied index k.sessions) conns) (λ conn.
    settled_good (k.streams conn) index (k.sessions.session conn) (k.sessions.session conn).flight refl (good_at k sound conn))

-- ---- leadership that is lost

-- a query that a reader has was one that waited
still_waits : (flying : Bool) (later : Option Later) → not (is_none (still_lent later)) ≡ true → (flying || not (is_none later)) ≡ true
still_waits true later e = refl
still_waits false None e = absurd cc
still_waits false (Some (Due statement)) e = absurd cc
still_waits false (Some (Lent statement)) e = refl

still_awaits : (database : List ℕ) (flight : Option Flight) (later : Option Later) → Awaits database flight later → Awaits database None (still_lent later)
still_awaits database flight None awaits = tt
still_awaits database flight (Some (Due statement)) awaits = tt
still_awaits database None (Some (Lent statement)) awaits = awaits
still_awaits database (Some f) (Some (Lent statement)) awaits = absurd awaits

lost_where : (b : Bool) (stream : Option Conn) (s after : Session) → s.hung ≡ b → Frees s after → Good stream s → Good stream (cond b absent after)
lost_where true stream s after hung f g = gone_good stream s hung g
lost_where false stream s after hung f g = freed_good stream s after hung f g

pub lost_sound : (k : Clients) (conns : List ℕ) → Sound k → Sound (freed k (on_lost k.sessions) conns)
unfolding on_lost tidy
lost_sound k conns sound =
    sound_by (freed k (on_lost k.sessions) conns) (λ conn.
    let s = k.sessions.session conn in
    lost_where s.hung (k.streams conn) s _ refl
    (record { there = refl; hung = refl; busy = still_waits (is_flying s) s.later; sends = tt; listed = tt; awaits = still_awaits s.database s.flight s.later (sound.awaits conn) })
    (good_at k sound conn))
