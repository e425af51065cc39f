-- The clients that code holds, as the rules see them, and that they stand over a state machine.
use Rattle.std.proofs.Common.{◌≡◌, ℕ, ◌<◌, Bool, true, false, cond, eqb, ltb, ◌==◌, List, [], Option, Some, None, is_none, is_some, not, Result, Ok, Err, OnErr, refl, sym, ap, subst, ◌∙◌, arith}
use Rattle.std.specs.Ordering.{nat_cmp, is_eq}
use Rattle.std.specs.BTreeMap.{BTreeMap, get, is_at}
use Rattle.std.specs.Map.{lookup, set_value}
use Rattle.std.proofs.lemmas.Map.Steps.{set_value_same}
use Rattle.std.proofs.lemmas.Bool.{ltb-true, eqb-true, eqb-false, ne_eqb, eq-eqb}
use Rattle.client_connection.specs.Connection.{Conn}
use Rattle.log_commands.specs.declared.command.Command.{Command}
use Rattle.database_state.specs.declared.database.Database.{Database}
use Rattle.database_state.specs.Databases.{act}
use Rattle.database_state.specs.Pins.{Pinning, StillPinned}
use Rattle.session_spec.specs.Sessions.{no_sessions}
use Rattle.session_spec.specs.Events.{on_hangup}
use Rattle.session_table.specs.Marks.{AreMarks}
use Rattle.session_gateway.specs.Seen.{seen, pins_of, PinsOf}
use Rattle.session_gateway.proofs.Keeping.{marks_stay, sessions_stay}
use Rattle.client_sessions.specs.declared.clients.Clients.{Clients as Held}
use Rattle.client_sessions.specs.Clients.{Clients, no_clients, with_stream, without, hung_up, Sound}
use Rattle.client_sessions.specs.Seen.{clients_of, AreValidOver, HasNoMarks}
use Rattle.client_sessions.proofs.Soundness.{none_sound, open_there, without_sound}

-- clients are alike where all that they have is
pub alike : (j k : Clients) → j.sessions ≡ k.sessions → ((conn : ℕ) → j.streams conn ≡ k.streams conn) → j.turns ≡ k.turns → j ≡ k
alike j k sessions streams turns = λ i. record { sessions = sessions i; streams = λ conn. streams conn i; turns = turns i }

-- clients are alike where what code holds of them is
pub held_alike : (old new : Held) (before after : List Database) → seen new.gateway after ≡ seen old.gateway before → ((q : ℕ) → get nat_cmp new.connections q ≡ get nat_cmp old.connections q)
    → new.turns.items ≡ old.turns.items → clients_of new after ≡ clients_of old before
unfolding clients_of
held_alike old new before after sessions streams turns = alike _ _ sessions streams turns

-- what holds of clients says nothing of turns
pub sound_as : (j k : Clients) → j.sessions ≡ k.sessions → ((conn : ℕ) → j.streams conn ≡ k.streams conn) → Sound k → Sound j
sound_as j k sessions streams sound =
    let same : j ≡ record { sessions = k.sessions; streams = k.streams; turns = j.turns } = alike j _ sessions streams refl in
    subst Sound (sym same) (record { fits = sound.fits; sends = sound.sends; listed = sound.listed; awaits = sound.awaits })

-- the same for maps with the same entries
pub entries_alike : (old new : Held) (before after : List Database) → seen new.gateway after ≡ seen old.gateway before → new.connections.entries ≡ old.connections.entries
    → new.turns.items ≡ old.turns.items → clients_of new after ≡ clients_of old before
entries_alike old new before after sessions entries turns =
    held_alike old new before after sessions (λ q. ap (λ (es : List (ℕ × Conn)). lookup (is_at (nat_cmp q)) es) entries) turns

-- what was found and put back changes no entry
pub put_back : (old new : List (ℕ × Conn)) (conn : ℕ) (found back : Conn) → new ≡ set_value (is_at (nat_cmp conn)) old back → Some found ≡ lookup (is_at (nat_cmp conn)) old → back ≡ found → new ≡ old
put_back old new conn found back put is same = put ∙ set_value_same (is_at (nat_cmp conn)) old back (sym is ∙ ap (λ (c : Conn). Some c) (sym same))

pub on_err : {A E : Type 0} (r : Result A E) (P : Type 0) → P → OnErr r P
on_err (Ok x) P p = tt
on_err (Err e) P p = p

-- ---- none

pub none_held : (held : Held) (databases : List Database) → seen held.gateway databases ≡ no_sessions → held.connections.entries ≡ [] → held.turns.items ≡ [] → clients_of held databases ≡ no_clients
unfolding clients_of
none_held held databases sessions entries turns =
    alike _ _ sessions (λ conn. ap (λ (es : List (ℕ × Conn)). lookup (is_at (nat_cmp conn)) es) entries) turns

no_marks : (databases : List Database) → HasNoMarks databases → AreMarks [] databases
no_marks databases none = record { live = tt; apart = tt; only = λ pin live. absurd (none pin live) }

pub none_stand : (held : Held) (databases : List Database) → pins_of held.gateway ≡ [] → clients_of held databases ≡ no_clients → HasNoMarks databases → AreValidOver held databases
none_stand held databases pins is none = record {
  pins = subst (λ (ps : List Pinning). AreMarks ps databases) (sym pins) (no_marks databases none);
  sound = subst Sound (sym is) none_sound;
}

-- ---- commands

pub clients_stay : (held : Held) (databases : List Database) (command : Command) → ((pin : Pinning) → StillPinned databases (act databases command) pin)
    → AreValidOver held databases → clients_of held (act databases command) ≡ clients_of held databases
clients_stay held databases command still stand =
    held_alike held held databases (act databases command) (sessions_stay held.gateway databases command still stand.pins) (λ q. refl) refl

pub still_stand : (held : Held) (databases : List Database) (command : Command) → ((pin : Pinning) → StillPinned databases (act databases command) pin)
    → AreValidOver held databases → AreValidOver held (act databases command)
still_stand held databases command still stand = record {
  pins = marks_stay held.gateway databases command still stand.pins;
  sound = subst Sound (sym (clients_stay held databases command still stand)) stand.sound;
}

-- ---- the streams as a table

key_test : {O : Type 0} (f : O → Bool) (less equal greater : O) → f less ≡ false → f equal ≡ true → f greater ≡ false → (k q : ℕ) (below same : Bool) → ltb k q ≡ below → eqb k q ≡ same
    → f (cond below less (cond same equal greater)) ≡ eqb q k
key_test f less equal greater a b c k q true same l s = let lt : k < q = ltb-true _ _ l in a ∙ sym (ne_eqb q k (omega (arith, lt)))
key_test f less equal greater a b c k q false true l s = b ∙ sym (eq-eqb q k (sym (eqb-true k q s)))
key_test f less equal greater a b c k q false false l s = c ∙ sym (ne_eqb q k (λ e. eqb-false k q s (sym e)))

same_key : (k q : ℕ) → is_eq (nat_cmp k q) ≡ eqb q k
same_key k q = key_test is_eq _ _ _ refl refl refl k q (ltb k q) (eqb k q) refl refl

-- a map that was updated is the table with one place changed
pub updated : (old new : BTreeMap ℕ Conn) (conn : ℕ) (stream : Option Conn) → ((q : ℕ) → get nat_cmp new q ≡ cond (is_at (nat_cmp conn) q) stream (get nat_cmp old q))
    → (q : ℕ) → get nat_cmp new q ≡ with_stream (λ k. get nat_cmp old k) conn stream q
updated old new conn stream updates q = updates q ∙ ap (λ (b : Bool). cond b stream (get nat_cmp old q)) (same_key conn q)

-- what is put in place of itself changes nothing
put_same : (b : Bool) (old stream : Option Conn) → (b ≡ true → old ≡ stream) → cond b stream old ≡ old
put_same true old stream same = sym (same refl)
put_same false old stream same = refl

pub kept : (streams : ℕ → Option Conn) (conn : ℕ) (stream : Option Conn) → streams conn ≡ stream → (q : ℕ) → with_stream streams conn stream q ≡ streams q
kept streams conn stream is q = put_same (q == conn) (streams q) stream (λ same. ap streams (eqb-true q conn same) ∙ is)

-- ---- what a look-up found

pub some_held : (o : Option Conn) → is_some o ≡ true → (stream : Conn) × (o ≡ Some stream)
some_held None is = absurd cc
some_held (Some stream) is = (stream, refl)

pub none_found : (o : Option Conn) → is_some o ≡ false → o ≡ None
none_found None is = refl
none_found (Some stream) is = absurd cc

open_where : (o : Option Conn) → is_some o ≡ not (is_none o)
open_where None = refl
open_where (Some stream) = refl

pub open_held : (held : Held) (databases : List Database) (conn : ℕ) (found : Bool) → found ≡ is_some (get nat_cmp held.connections conn) → found ≡ not (is_none ((clients_of held databases).streams conn))
unfolding clients_of
open_held held databases conn found is = is ∙ open_where (get nat_cmp held.connections conn)

-- what was taken out of a map that hadn't it changes nothing
pub same_entries : (old new : Held) (databases : List Database) (conn : ℕ) → ((q : ℕ) → get nat_cmp new.connections q ≡ cond (is_at (nat_cmp conn) q) None (get nat_cmp old.connections q))
    → get nat_cmp old.connections conn ≡ None → seen new.gateway databases ≡ seen old.gateway databases → new.turns.items ≡ old.turns.items → clients_of new databases ≡ clients_of old databases
same_entries old new databases conn updates none sessions turns =
    held_alike old new databases databases sessions
    (λ q. updated old.connections new.connections conn None updates q ∙ kept (λ k. get nat_cmp old.connections k) conn None none q) turns

-- the same clients are where they stood
pub same_stand : (old new : Held) (databases : List Database) → clients_of new databases ≡ clients_of old databases → PinsOf new.gateway databases → AreValidOver old databases → AreValidOver new databases
same_stand old new databases same pins stand = record { pins = pins; sound = subst Sound (sym same) stand.sound }

-- ---- hanging up

-- what code holds after an open connection went
pub left_held : (old new : Held) (before after : List Database) (conn : ℕ) → seen new.gateway after ≡ on_hangup (seen old.gateway before) conn
    → ((q : ℕ) → get nat_cmp new.connections q ≡ cond (is_at (nat_cmp conn) q) None (get nat_cmp old.connections q)) → new.turns.items ≡ old.turns.items
    → clients_of new after ≡ without (clients_of old before) conn
unfolding clients_of
left_held old new before after conn sessions streams turns = alike _ _ sessions (updated old.connections new.connections conn None streams) turns

pub hung_open : (k : Clients) (conn : ℕ) (stream : Conn) → k.streams conn ≡ Some stream → hung_up k conn ≡ without k conn
unfolding hung_up
hung_open k conn stream opens = ap (λ (o : Option Conn). cond (is_none o) k (without k conn)) opens

pub hung_closed : (k : Clients) (conn : ℕ) → k.streams conn ≡ None → hung_up k conn ≡ k
unfolding hung_up
hung_closed k conn none = ap (λ (o : Option Conn). cond (is_none o) k (without k conn)) none

-- the stream of a connection, as code finds it
pub stream_held : (held : Held) (databases : List Database) (conn : ℕ) (stream : Option Conn) → get nat_cmp held.connections conn ≡ stream → (clients_of held databases).streams conn ≡ stream
unfolding clients_of
stream_held held databases conn stream is = is

-- the session of an open connection is there and hasn't hung up
pub held_there : (held : Held) (databases : List Database) (conn : ℕ) (stream : Conn) → get nat_cmp held.connections conn ≡ Some stream → AreValidOver held databases
    → (((seen held.gateway databases).session conn).there ≡ true) × (((seen held.gateway databases).session conn).hung ≡ false)
unfolding clients_of
held_there held databases conn stream is stand = open_there (clients_of held databases) conn stream is stand.sound

pub left_stand : (old new : Held) (before after : List Database) (conn : ℕ) (stream : Conn) → get nat_cmp old.connections conn ≡ Some stream → AreValidOver old before
    → clients_of new after ≡ without (clients_of old before) conn → PinsOf new.gateway after → AreValidOver new after
left_stand old new before after conn stream is stand left pins = record {
  pins = pins;
  sound = subst Sound (sym left) (without_sound (clients_of old before) conn stream (stream_held old before conn (Some stream) is) stand.sound);
}
