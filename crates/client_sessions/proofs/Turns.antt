-- Whose turn it is, as code goes over those in turn.
use Rattle.std.proofs.Common.{◌≡◌, ℕ, Bool, true, false, List, [], ◌∷◌, Option, Some, None, refl, sym, ap, ◌∙◌}
use Rattle.std.specs.Option.{option_or}
use Rattle.wire_words.specs.declared.message.Message.{Message}
use Rattle.client_connection.specs.Connection.{Conn}
use Rattle.session_spec.specs.Sessions.{Gateway, is_busy}
use Rattle.client_sessions.specs.Clients.{Clients, with_stream, Offer, first_of, offered_on, offered, offer_of, next_offer}
use Rattle.client_sessions.specs.Calls.{TookFrom, TookNext}

-- ---- what is offered on one connection

pub busy_none : (k : Clients) (conn : ℕ) (turns : List ℕ) → is_busy (k.sessions.session conn) ≡ true → offered k conn turns ≡ None
busy_none k conn turns busy = ap (λ (b : Bool). offered_on conn turns b (k.streams conn)) busy

on_stream : (k : Clients) (conn : ℕ) (turns : List ℕ) (stream : Option Conn) → is_busy (k.sessions.session conn) ≡ false → k.streams conn ≡ stream → offered k conn turns ≡ offered_on conn turns false stream
on_stream k conn turns stream idle is = ap (λ (b : Bool). offered_on conn turns b (k.streams conn)) idle ∙ ap (offered_on conn turns false) is

pub closed_none : (k : Clients) (conn : ℕ) (turns : List ℕ) → is_busy (k.sessions.session conn) ≡ false → k.streams conn ≡ None → offered k conn turns ≡ None
closed_none k conn turns idle is = on_stream k conn turns None idle is

pub idle_none : (k : Clients) (conn : ℕ) (turns : List ℕ) (stream : Conn) → is_busy (k.sessions.session conn) ≡ false → k.streams conn ≡ Some stream → stream.waiting ≡ [] → offered k conn turns ≡ None
idle_none k conn turns stream idle is none = on_stream k conn turns (Some stream) idle is ∙ ap (first_of conn turns stream) none

pub message_offered : (k : Clients) (conn : ℕ) (turns : List ℕ) (stream rest : Conn) (m : Message) → is_busy (k.sessions.session conn) ≡ false → k.streams conn ≡ Some stream
    → stream ≡ record { end = rest.end; waiting = m ∷ rest.waiting; full = rest.full } → offered k conn turns ≡ Some (record { conn = conn; message = m; stream = rest; turns = conn ∷ turns })
message_offered k conn turns stream rest m idle is first = on_stream k conn turns (Some stream) idle is ∙ ap (λ (c : Conn). first_of conn turns c c.waiting) first

-- ---- over those in turn

-- Some of those in turn were let go, which had nothing; all else is as it was.
pub record Skipped (old now : Clients) : Type 0 where
  pub sessions : now.sessions ≡ old.sessions
  pub streams : now.streams ≡ old.streams
  pub next : next_offer old ≡ offer_of old now.turns

pub skip_start : (k : Clients) → Skipped k k
unfolding next_offer
skip_start k = record { sessions = refl; streams = refl; next = refl }

offered_same : (k j : Clients) (conn : ℕ) (turns : List ℕ) → j.sessions ≡ k.sessions → j.streams ≡ k.streams → offered j conn turns ≡ offered k conn turns
offered_same k j conn turns sessions streams =
    ap (λ (g : Gateway). offered_on conn turns (is_busy (g.session conn)) (j.streams conn)) sessions
    ∙ ap (λ (s : ℕ → Option Conn). offered_on conn turns (is_busy (k.sessions.session conn)) (s conn)) streams

front_offer : (k : Clients) (conn : ℕ) (turns : List ℕ) (o : Option Offer) → offered k conn turns ≡ o → offer_of k (conn ∷ turns) ≡ option_or o (offer_of k turns)
front_offer k conn turns o e = ap (λ (x : Option Offer). option_or x (offer_of k turns)) e

pub skip_more : (old now popped : Clients) (conn : ℕ) (turns : List ℕ) → Skipped old now → now.turns ≡ conn ∷ turns → offered now conn turns ≡ None
    → popped.sessions ≡ now.sessions → popped.streams ≡ now.streams → popped.turns ≡ turns → Skipped old popped
skip_more old now popped conn turns s front none sessions streams rest = record {
  sessions = sessions ∙ s.sessions;
  streams = streams ∙ s.streams;
  next = s.next ∙ ap (offer_of old) front ∙ front_offer old conn turns None (sym (offered_same old now conn turns s.sessions s.streams) ∙ none) ∙ ap (offer_of old) (sym rest);
}

pub skip_end : (old now : Clients) → Skipped old now → now.turns ≡ [] → TookNext old now None
skip_end old now s none =
    (s.next ∙ ap (offer_of old) none, λ i. record { sessions = s.sessions i; streams = s.streams i; turns = none i })

pub skip_found : (old now new : Clients) (conn : ℕ) (turns : List ℕ) (m : Message) → Skipped old now → now.turns ≡ conn ∷ turns → TookFrom now new conn turns (Some m)
    → TookNext old new (Some (conn, m))
skip_found old now new conn turns m s front took =
    let offer : Offer = record { conn = conn; message = m; stream = took.0; turns = conn ∷ turns } in
    let found : next_offer old ≡ Some offer = s.next ∙ ap (offer_of old) front ∙ front_offer old conn turns (Some offer) (sym (offered_same old now conn turns s.sessions s.streams) ∙ took.1) in
    (offer, found, refl, refl, took.2 ∙ (λ i. record { sessions = s.sessions i; streams = with_stream (s.streams i) conn (Some took.0); turns = front i }))
