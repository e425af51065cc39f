-- How many bytes a piece adds to what a connection holds.
use Rattle.std.proofs.Common.{◌≡◌, ◌+◌, ◌≤◌, ℕ, zero, suc, Bool, true, false, cond, not, ◌||◌, ◌==◌, ltb, List, ◌++◌, length, take, drop, sum_by, refl, sym, ap, arith, length-append, length-drop, ltb-false}
use Rattle.std.proofs.lemmas.List.{length-take}
use Rattle.std.proofs.lemmas.List.Sums.{sum_by-cons}
use Rattle.wire_words.specs.declared.message.Message.{Message}
use Rattle.wire_words.specs.declared.splitter.SplitFault.TheVariants.{Version}
use Rattle.wire_words.specs.Message.{header_of}
use Rattle.wire_words.specs.Stream.{Front, Part, Long, Whole, body_size, End, Opening, Rest, Broken, Stream, ended, taken, taking, front, stream, versioned, messages_in, going_on, client_limit, unread_bytes}
use Rattle.wire_words.proofs.Cutting.{whole_front, stream_short, stream_long}
use Rattle.client_connection.specs.Connection.{message_size, version_room, is_begun}

-- a message and what follows it have as many bytes as there were
front_size : (limit : ℕ) (bytes : List ℕ) (m : Message) (rest : List ℕ) → front limit bytes ≡ Whole m rest → message_size m + length rest ≡ length bytes
front_size limit bytes m rest e =
    let w = whole_front limit bytes m rest e in
    let n = body_size (header_of bytes) in
    let long : 8 ≤ length bytes = ltb-false _ _ w.head in
    let enough : n ≤ length (drop 8 bytes) = ltb-false _ _ w.room in
    let body : length (take n (drop 8 bytes)) ≡ length m.body = ap (λ (x : Message). length x.body) w.message in
    let back : length (drop n (drop 8 bytes)) ≡ length rest = ap (λ (x : List ℕ). length x) w.rest_is in
    omega (arith, long, enough, body, back, length-drop n (drop 8 bytes), length-drop 8 bytes, length-take n (drop 8 bytes))

-- the messages and the unread bytes of a stream have no more bytes than this many, and its version word is there whole
record Within (count : ℕ) (s : Stream) : Type 0 where
  bytes : sum_by message_size s.messages + length (unread_bytes s.end) ≤ count
  begun : is_begun s.end ≡ true

taken_within : (limit : ℕ) (bytes : List ℕ) (f : Front) → front limit bytes ≡ f → (behind : List ℕ → Stream)
    → ((rest : List ℕ) → Within (length rest) (behind rest)) → Within (length bytes) (taken bytes f behind)
taken_within limit bytes Part e behind h = record { bytes = omega arith; begun = refl }
taken_within limit bytes (Long words) e behind h = record { bytes = omega arith; begun = refl }
taken_within limit bytes (Whole m rest) e behind h =
    let size = front_size limit bytes m rest e in
    let more = sum_by-cons message_size m (behind rest).messages in
    let within = (h rest).bytes in
    record { bytes = omega (arith, size, more, within); begun = (h rest).begun }

taking_within : (n limit : ℕ) (bytes : List ℕ) → Within (length bytes) (taking n limit bytes)
taking_within zero limit bytes = record { bytes = omega arith; begun = refl }
taking_within (suc n) limit bytes = taken_within limit bytes (front limit bytes) refl (taking n limit) (taking_within n limit)

messages_within : (limit : ℕ) (bytes : List ℕ) → Within (length bytes) (messages_in limit bytes)
unfolding messages_in
messages_within limit bytes = taking_within (length bytes) limit bytes

-- what a piece adds to a stream that ended so: how many bytes are held of it, and whether the version word is there whole
pub record Added (before : End) (piece : List ℕ) (added : Stream) : Type 0 where
  pub bytes : sum_by message_size added.messages + length (unread_bytes added.end) + version_room before ≤ length (unread_bytes before) + length piece + version_room added.end
  pub begun : (b : Bool) → b ≡ is_begun before → is_begun added.end ≡ (b || not (ltb (length (unread_bytes before) + length piece) 8))

versioned_within : (limit version : ℕ) (behind : List ℕ) → Within (length behind) (versioned limit version behind)
versioned_within limit version behind =
    elim (version == 1) as (λ b. Within (length behind) (cond b (messages_in limit behind) (ended (Broken (Version version))))) [
      | true ↦ messages_within limit behind
      | false ↦ record { bytes = omega arith; begun = refl }
    ]

opening_long : (bytes piece : List ℕ) (version : ℕ) → ltb (length (bytes ++ piece)) 8 ≡ false
    → Added (Opening bytes) piece (versioned client_limit version (drop 8 (bytes ++ piece)))
opening_long bytes piece version e =
    let long : 8 ≤ length (bytes ++ piece) = ltb-false _ _ e in
    let w = versioned_within client_limit version (drop 8 (bytes ++ piece)) in
    record {
      bytes = omega (arith, w.bytes, long, length-drop 8 (bytes ++ piece), length-append bytes piece);
      begun = λ begun is. rw (is, sym (length-append bytes piece), e) w.begun;
    }

opening_added : (bytes piece : List ℕ) (b : Bool) → ltb (length (bytes ++ piece)) 8 ≡ b → Added (Opening bytes) piece (stream client_limit (bytes ++ piece))
opening_added bytes piece true e =
    rw (stream_short client_limit (bytes ++ piece) e)
    (record {
      bytes = omega (arith, length-append bytes piece);
      begun = λ begun is. rw (is, sym (length-append bytes piece), e) refl;
    })
opening_added bytes piece false e = rw (stream_long client_limit (bytes ++ piece) e) (opening_long bytes piece _ e)

pub added_by : (end : End) (piece : List ℕ) → Added end piece (going_on client_limit end piece)
added_by (Opening bytes) piece = opening_added bytes piece (ltb (length (bytes ++ piece)) 8) refl
added_by (Rest bytes) piece =
    let w = messages_within client_limit (bytes ++ piece) in
    record { bytes = omega (arith, w.bytes, length-append bytes piece); begun = λ begun is. rw is w.begun }
added_by (Broken fault) piece = record { bytes = omega arith; begun = λ begun is. rw is refl }
