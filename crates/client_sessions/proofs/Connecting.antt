-- A client that connects.
use Rattle.std.proofs.Common.{◌≡◌, ℕ, Bool, true, false, cond, ◌||◌, List, Option, Some, None, is_none, not, is_some, refl, sym, ap, subst, ◌∙◌}
use Rattle.std.specs.Ordering.{nat_cmp}
use Rattle.std.specs.BTreeMap.{BTreeMap, get, is_at}
use Rattle.client_connection.specs.Connection.{Conn, opened}
use Rattle.database_state.specs.declared.database.Database.{Database}
use Rattle.database_state.specs.Pins.{Pinning}
use Rattle.session_spec.specs.Sessions.{Session, Gateway, is_busy}
use Rattle.session_spec.specs.Events.{connects, connected}
use Rattle.session_table.specs.Marks.{AreMarks}
use Rattle.session_gateway.specs.Seen.{seen, pins_of}
use Rattle.client_sessions.specs.declared.clients.Clients.{Clients as Held}
use Rattle.client_sessions.specs.declared.connect_result.ConnectResult.TheVariants.{Joined, Full, Taken}
use Rattle.client_sessions.specs.Clients.{Clients, with_stream, joining, joined_as, joined, Fits, Sound}
use Rattle.client_sessions.specs.Seen.{clients_of, AreValidOver}
use Rattle.client_sessions.proofs.Soundness.{joined_sound}
use Rattle.client_sessions.proofs.Standing.{alike, updated, same_entries}

-- ---- numbers that are taken

-- a number is taken where its connection is open, or a proposal of its session is pending
taken_by : (stream : Option Conn) (s : Session) (busy : Bool) → is_busy s ≡ busy → Fits stream s → (is_some stream || busy) ≡ s.there
taken_by (Some c) s busy is fits = sym fits.0
taken_by None s true is fits = sym (fits.1 is)
taken_by None s false is fits = not_there s.there refl where
  not_there : (there : Bool) → s.there ≡ there → false ≡ there
  not_there true there = let both : true ≡ false = sym (ap (λ (flying : Bool). flying || not (is_none s.later)) (fits.0 there).1) ∙ is in absurd cc
  not_there false there = refl

there_so : (held : Held) (databases : List Database) (conn : ℕ) (found busy : Bool) → found ≡ is_some (get nat_cmp held.connections conn) → busy ≡ is_busy ((seen held.gateway databases).session conn)
    → AreValidOver held databases → (found || busy) ≡ ((clients_of held databases).sessions.session conn).there
unfolding clients_of
there_so held databases conn found busy is busy_is stand = ap (λ (b : Bool). b || busy) is ∙ taken_by (get nat_cmp held.connections conn) _ busy (sym busy_is) (stand.sound.fits conn)

-- a number is taken that is found, or else one that is busy
pub found_there : (held : Held) (databases : List Database) (conn : ℕ) (found : Bool) → found ≡ is_some (get nat_cmp held.connections conn) → found ≡ true → AreValidOver held databases
    → found ≡ ((clients_of held databases).sessions.session conn).there
found_there held databases conn found is here stand =
    here ∙ sym (ap (λ (b : Bool). b || is_busy ((seen held.gateway databases).session conn)) here) ∙ there_so held databases conn found _ is refl stand

pub busy_there : (held : Held) (databases : List Database) (conn : ℕ) (found busy : Bool) → found ≡ is_some (get nat_cmp held.connections conn) → found ≡ false → busy ≡ is_busy ((seen held.gateway databases).session conn)
    → AreValidOver held databases → busy ≡ ((clients_of held databases).sessions.session conn).there
busy_there held databases conn found busy is away busy_is stand =
    sym (ap (λ (b : Bool). b || busy) away) ∙ there_so held databases conn found busy is busy_is stand

-- ---- joining

pub told_held : (held : Held) (databases : List Database) (conn : ℕ) (b : Bool) → b ≡ connects (seen held.gateway databases) conn → b ≡ connects (clients_of held databases).sessions conn
unfolding clients_of
told_held held databases conn b is = is

pub joined_held : (old new : Held) (databases : List Database) (conn : ℕ) (fresh : Conn) → fresh ≡ opened → true ≡ connects (seen old.gateway databases) conn
    → seen new.gateway databases ≡ cond (connects (seen old.gateway databases) conn) (connected (seen old.gateway databases) conn) (seen old.gateway databases)
    → ((q : ℕ) → get nat_cmp new.connections q ≡ cond (is_at (nat_cmp conn) q) (Some fresh) (get nat_cmp old.connections q)) → new.turns.items ≡ old.turns.items
    → clients_of new databases ≡ joined_as (clients_of old databases) conn Joined
unfolding clients_of
joined_held old new databases conn fresh is connects_so sessions streams turns =
    alike _ _ (sessions ∙ ap (λ (b : Bool). cond b (connected (seen old.gateway databases) conn) (seen old.gateway databases)) (sym connects_so))
    (λ q. updated old.connections new.connections conn (Some fresh) streams q ∙ ap (λ (c : Conn). with_stream (λ k. get nat_cmp old.connections k) conn (Some c) q) is) turns

-- no session was given
pub refused_sessions : (old new : Held) (databases : List Database) (conn : ℕ) → false ≡ connects (seen old.gateway databases) conn
    → seen new.gateway databases ≡ cond (connects (seen old.gateway databases) conn) (connected (seen old.gateway databases) conn) (seen old.gateway databases) → seen new.gateway databases ≡ seen old.gateway databases
refused_sessions old new databases conn connects_so sessions =
    sessions ∙ ap (λ (b : Bool). cond b (connected (seen old.gateway databases) conn) (seen old.gateway databases)) (sym connects_so)

-- what was put where nothing was, and then taken again, left nothing
taken_back : (b : Bool) (put was between now : Option Conn) → between ≡ cond b put was → now ≡ cond b None between → now ≡ cond b None was
taken_back true put was between now puts took = took
taken_back false put was between now puts took = took ∙ puts

pub refused_held : (old new : Held) (mid : BTreeMap ℕ Conn) (databases : List Database) (conn : ℕ) (fresh : Conn) → get nat_cmp old.connections conn ≡ None → seen new.gateway databases ≡ seen old.gateway databases
    → ((q : ℕ) → get nat_cmp mid q ≡ cond (is_at (nat_cmp conn) q) (Some fresh) (get nat_cmp old.connections q)) → ((q : ℕ) → get nat_cmp new.connections q ≡ cond (is_at (nat_cmp conn) q) None (get nat_cmp mid q))
    → new.turns.items ≡ old.turns.items → clients_of new databases ≡ clients_of old databases
refused_held old new mid databases conn fresh none sessions put took turns =
    same_entries old new databases conn
    (λ q. taken_back (is_at (nat_cmp conn) q) (Some fresh) (get nat_cmp old.connections q) (get nat_cmp mid q) (get nat_cmp new.connections q) (put q) (took q)) none sessions turns

-- ---- what became of it

by_there : (g : Gateway) (conn : ℕ) (there : Bool) → (g.session conn).there ≡ there → joining g conn ≡ cond there Taken (cond (connects g conn) Joined Full)
unfolding joining
by_there g conn there e = ap (λ (b : Bool). cond b Taken (cond (connects g conn) Joined Full)) e

-- a number that was taken changes nothing
pub was_taken : (k : Clients) (conn : ℕ) (taken : Bool) → taken ≡ (k.sessions.session conn).there → taken ≡ true → joining k.sessions conn ≡ Taken
was_taken k conn taken is so = by_there k.sessions conn true (sym is ∙ so)

pub taken_stays : (k : Clients) (conn : ℕ) → joining k.sessions conn ≡ Taken → k ≡ joined k conn
taken_stays k conn is = sym (ap (joined_as k conn) is)

by_connects : (k : Clients) (conn : ℕ) (taken new : Bool) → taken ≡ (k.sessions.session conn).there → taken ≡ false → new ≡ connects k.sessions conn → joining k.sessions conn ≡ cond new Joined Full
by_connects k conn taken new is so connects_so = by_there k.sessions conn false (sym is ∙ so) ∙ ap (λ (b : Bool). cond b Joined Full) (sym connects_so)

pub was_joined : (k : Clients) (conn : ℕ) (taken new : Bool) → taken ≡ (k.sessions.session conn).there → taken ≡ false → new ≡ connects k.sessions conn → new ≡ true → joining k.sessions conn ≡ Joined
was_joined k conn taken new is so connects_so here = by_connects k conn taken new is so connects_so ∙ ap (λ (b : Bool). cond b Joined Full) here

pub was_full : (k : Clients) (conn : ℕ) (taken new : Bool) → taken ≡ (k.sessions.session conn).there → taken ≡ false → new ≡ connects k.sessions conn → new ≡ false → joining k.sessions conn ≡ Full
was_full k conn taken new is so connects_so away = by_connects k conn taken new is so connects_so ∙ ap (λ (b : Bool). cond b Joined Full) away

-- the clients after it, by what became of it
pub joined_so : (k now : Clients) (conn : ℕ) (new : Bool) → now ≡ cond new (joined_as k conn Joined) k → new ≡ true → joining k.sessions conn ≡ Joined → now ≡ joined k conn
joined_so k now conn new goes here is = goes ∙ ap (λ (b : Bool). cond b (joined_as k conn Joined) k) here ∙ sym (ap (joined_as k conn) is)

pub full_so : (k now : Clients) (conn : ℕ) (new : Bool) → now ≡ cond new (joined_as k conn Joined) k → new ≡ false → joining k.sessions conn ≡ Full → now ≡ joined k conn
full_so k now conn new goes away is = goes ∙ ap (λ (b : Bool). cond b (joined_as k conn Joined) k) away ∙ sym (ap (joined_as k conn) is)

pub joined_stand : (old new : Held) (databases : List Database) (conn : ℕ) → clients_of new databases ≡ joined (clients_of old databases) conn → pins_of new.gateway ≡ pins_of old.gateway
    → AreValidOver old databases → AreValidOver new databases
joined_stand old new databases conn goes pins stand = record {
  pins = subst (λ (ps : List Pinning). AreMarks ps databases) (sym pins) stand.pins;
  sound = subst Sound (sym goes) (joined_sound (clients_of old databases) conn stand.sound);
}

pub refused_stand : (old new : Held) (databases : List Database) → clients_of new databases ≡ clients_of old databases → pins_of new.gateway ≡ pins_of old.gateway
    → AreValidOver old databases → AreValidOver new databases
refused_stand old new databases same pins stand = record {
  pins = subst (λ (ps : List Pinning). AreMarks ps databases) (sym pins) stand.pins;
  sound = subst Sound (sym same) stand.sound;
}
