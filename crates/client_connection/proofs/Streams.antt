-- What the answers of a splitter say of its stream.
use Rattle.std.proofs.Common.{◌≡◌, ◌≤◌, ℕ, Bool, true, false, cond, ltb, length, take, List, [], ◌∷◌, ◌++◌, None, refl, sym, ap, ◌∙◌, append_assoc, arith, ltb-false}
use Rattle.std.proofs.lemmas.List.{append-nil, take_all}
use Rattle.wire_words.specs.declared.message.Message.{Message}
use Rattle.wire_words.specs.Stream.{End, Stream, stream, going_on, client_limit, peer_limit, fault_in, after_messages}
use Rattle.wire_words.proofs.Cutting.{stream_joined}
use Rattle.wire_words.proofs.Widening.{same_stream}
use Rattle.client_connection.specs.Connection.{Conn, HasTakenBy, HasTaken, PeerHasTaken, received, peer_received, read_of, with_more, room}

-- ---- what was fed so far

read_more : (limit : ℕ) (c : Conn) (bytes piece : List ℕ) (taken : List Message) (full : Bool) → HasTakenBy limit c bytes taken
    → HasTakenBy limit (with_more c (going_on limit c.end piece) full) (bytes ++ piece) taken
read_more limit c bytes piece taken full h =
    let joined = stream_joined limit bytes piece in
    let added = going_on limit c.end piece in
    let whole : stream limit (bytes ++ piece) ≡ after_messages (taken ++ c.waiting) added =
    joined ∙ ap (λ (ms : List Message). after_messages ms (going_on limit (stream limit bytes).end piece)) h.messages
    ∙ ap (λ (e : End). after_messages (taken ++ c.waiting) (going_on limit e piece)) h.end in
    record {
      messages = ap (λ (s : Stream). s.messages) whole ∙ append_assoc taken c.waiting added.messages;
      end = ap (λ (s : Stream). s.end) whole;
    }

-- a piece of which what there is room for is read
pub received_more : (c : Conn) (bytes piece : List ℕ) (taken : List Message) → HasTaken c bytes taken → HasTaken (received c piece) (bytes ++ read_of c piece) taken
received_more c bytes piece taken h =
    elim c.full as (λ b. HasTaken
    (cond b c (with_more c (going_on client_limit c.end (take (room c) piece)) (ltb (room c) (length piece))))
    (bytes ++ cond b [] (take (room c) piece)) taken) [
      | true ↦ rw append-nil h
      | false ↦ read_more client_limit c bytes (take (room c) piece) taken (ltb (room c) (length piece)) h
    ]

-- if no byte was without room, all of a piece was read
pub all_read : (c : Conn) (piece : List ℕ) → (received c piece).full ≡ false → read_of c piece ≡ piece
all_read c piece e = all_of c.full c piece refl e where
  all_of : (b : Bool) (c : Conn) (piece : List ℕ) → c.full ≡ b
      → (cond b c (with_more c (going_on client_limit c.end (take (room c) piece)) (ltb (room c) (length piece)))).full ≡ false
      → cond b [] (take (room c) piece) ≡ piece
  all_of true c piece is e = absurd cc
  all_of false c piece is e = let fits : length piece ≤ room c = ltb-false _ _ e in take_all (room c) piece fits

pub taken_more : (limit : ℕ) (old new : Conn) (bytes : List ℕ) (taken : List Message) (m : Message) → HasTakenBy limit old bytes taken → old ≡ record { end = new.end; waiting = m ∷ new.waiting; full = new.full } → HasTakenBy limit new bytes (taken ++ m ∷ [])
taken_more limit old new bytes taken m h is = record {
  messages = h.messages ∙ ap (λ (c : Conn). taken ++ c.waiting) is ∙ sym (append_assoc taken (m ∷ []) new.waiting);
  end = h.end ∙ ap (λ (c : Conn). c.end) is;
}

-- ---- a peer's

-- a stream without a fault is the same where a message may have more words
pub handed_taken : (c : Conn) (bytes : List ℕ) (taken : List Message) → fault_in c.end ≡ None → HasTaken c bytes taken → PeerHasTaken c bytes taken
handed_taken c bytes taken none h =
    let same : stream peer_limit bytes ≡ stream client_limit bytes = same_stream (record { limit = client_limit; end = c.end }) peer_limit bytes (omega arith) (λ i. record { limit = client_limit; end = sym h.end i }) none in
    record { messages = ap (λ (s : Stream). s.messages) same ∙ h.messages; end = ap (λ (s : Stream). s.end) same ∙ h.end }

peer_more : (full : Bool) (c : Conn) (bytes piece : List ℕ) (taken : List Message) → full ≡ false → PeerHasTaken c bytes taken → PeerHasTaken (cond full c (with_more c (going_on peer_limit c.end piece) false)) (bytes ++ piece) taken
peer_more true c bytes piece taken room h = absurd cc
peer_more false c bytes piece taken room h = read_more peer_limit c bytes piece taken false h

pub peer_received_more : (c : Conn) (bytes piece : List ℕ) (taken : List Message) → c.full ≡ false → PeerHasTaken c bytes taken → PeerHasTaken (peer_received c piece) (bytes ++ piece) taken
peer_received_more c bytes piece taken room h = peer_more c.full c bytes piece taken room h
