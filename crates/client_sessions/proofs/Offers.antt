-- Whose turn it is.
use Rattle.std.proofs.Common.{◌≡◌, ℕ, Bool, true, false, List, [], ◌∷◌, ◌⊎◌, inl, inr, Option, Some, None, refl, ap, subst}
use Rattle.std.specs.Option.{option_or}
use Rattle.wire_words.specs.declared.message.Message.{Message}
use Rattle.client_connection.specs.Connection.{Conn}
use Rattle.session_spec.specs.Sessions.{is_busy}
use Rattle.client_sessions.specs.Clients.{Clients, Offer, first_of, offered_on, offered, offer_of, next_offer, IsOffered}

first_offered : (k : Clients) (conn : ℕ) (turns : List ℕ) (stream : Conn) (waiting : List Message) (o : Offer) → is_busy (k.sessions.session conn) ≡ false
    → k.streams conn ≡ Some stream → stream.waiting ≡ waiting → first_of conn turns stream waiting ≡ Some o → IsOffered k o
first_offered k conn turns stream [] o idle opens waits e = absurd cc
first_offered k conn turns stream (m ∷ ms) o idle opens waits e =
    let made : Offer = record { conn = conn; message = m; stream = record { end = stream.end; waiting = ms; full = stream.full }; turns = conn ∷ turns } in
    let same : made ≡ o = cc in
    subst (λ (x : Offer). IsOffered k x) same
    (record {
      stream = stream;
      opens = opens;
      first = ap (λ (ws : List Message). record { end = stream.end; waiting = ws; full = stream.full }) waits;
      idle = idle;
    })

on_connection : (k : Clients) (conn : ℕ) (turns : List ℕ) (busy : Bool) (stream : Option Conn) (o : Offer) → is_busy (k.sessions.session conn) ≡ busy
    → k.streams conn ≡ stream → offered_on conn turns busy stream ≡ Some o → IsOffered k o
on_connection k conn turns true stream o b s e = absurd cc
on_connection k conn turns false None o b s e = absurd cc
on_connection k conn turns false (Some c) o b s e = first_offered k conn turns c c.waiting o b s refl e

either_offer : (a b : Option Offer) (o : Offer) → option_or a b ≡ Some o → (a ≡ Some o) ⊎ (b ≡ Some o)
either_offer None b o e = inr e
either_offer (Some x) b o e = inl e

offers_first : (k : Clients) (turns : List ℕ) (o : Offer) → offer_of k turns ≡ Some o → IsOffered k o
offers_first k [] o e = absurd cc
offers_first k (conn ∷ turns) o e =
    elim (either_offer (offered k conn turns) (offer_of k turns) o e) [
      | inl here ↦ on_connection k conn turns (is_busy (k.sessions.session conn)) (k.streams conn) o refl refl here
      | inr later ↦ offers_first k turns o later
    ]

-- the message whose turn it is is the first that waits on an open connection whose session isn't busy
pub next_is_first : (k : Clients) (o : Offer) → next_offer k ≡ Some o → IsOffered k o
unfolding next_offer
next_is_first k o e = offers_first k k.turns o e
