-- The counts of a connection: the bytes of the messages that wait, and for how many there is room.
use Rattle.std.proofs.Common.{◌≡◌, ◌+◌, ◌-◌, ◌≤◌, ◌<◌, ◌^◌, ℕ, Bool, false, cond, not, ◌||◌, ltb, List, [], ◌++◌, length, take, get_or, sum_by, refl, sym, ap, subst, ◌∙◌, arith}
use Rattle.std.proofs.lemmas.List.Sums.{sum_by-append, sum_by_more, sum_by_more_le}
use Rattle.wire_words.specs.declared.message.Message.{Message}
use Rattle.wire_words.specs.Stream.{End, Opening, Rest, Broken, Splitting, stream, fed, going_on, client_limit, unread_bytes}
use Rattle.client_connection.specs.Connection.{Conn, Counts, IsFed, message_size, held, room, version_room, is_begun}
use Rattle.client_connection.proofs.Room.{added_by}

-- the messages so far and the next one have no more bytes than all
pub size_within : (ms : List Message) (i : ℕ) (m : Message) → i < length ms → m ≡ get_or ms i m
    → sum_by message_size (take i ms) + message_size m ≤ sum_by message_size ms
size_within ms i m lt is =
    subst (λ (x : Message). sum_by message_size (take i ms) + message_size x ≤ sum_by message_size ms) (sym is) (sum_by_more_le message_size ms i m lt)

-- one message more
pub sizes_more : (ms : List Message) (i : ℕ) (m : Message) → i < length ms → m ≡ get_or ms i m
    → sum_by message_size (take (i + 1) ms) ≡ sum_by message_size (take i ms) + message_size m
sizes_more ms i m lt is = sum_by_more message_size ms i m lt ∙ ap (λ (x : Message). sum_by message_size (take i ms) + message_size x) (sym is)

pub held_is : (c : Conn) → held c ≡ length (unread_bytes c.end) + sum_by message_size c.waiting
unfolding held
held_is c = refl

pub room_is : (c : Conn) → room c ≡ 33554432 + version_room c.end - held c
unfolding room
room_is c = refl

-- the room of the version word, by whether it is there whole
pub version_room_is : (end : End) (begun : Bool) → begun ≡ is_begun end → cond begun 0 8 ≡ version_room end
version_room_is (Opening bytes) begun e = rw e refl
version_room_is (Rest bytes) begun e = rw e refl
version_room_is (Broken fault) begun e = rw e refl

-- at the start of a stream
pub counts_opened : (s : Splitting) (xs ys : List Message) → s ≡ fed client_limit [] → xs ≡ [] → ys ≡ [] → Counts s (xs ++ ys) false 0
unfolding stream
counts_opened s xs ys e nx ny = rw (e, nx, ny) (record { was_fed = record { bytes = []; is = refl }; begins = refl; counted = refl; within = omega arith })

-- after a piece for which there is room
pub counts_more : (s new : Splitting) (waiting messages : List Message) (piece : List ℕ) (begun : Bool) (count : ℕ) → Counts s waiting begun count → IsFed new
    → new.end ≡ (going_on client_limit s.end piece).end → messages ≡ (going_on client_limit s.end piece).messages
    → length piece + (length (unread_bytes s.end) + sum_by message_size waiting) ≤ 33554432 + version_room s.end
    → Counts new (waiting ++ messages) (begun || not (ltb (length (unread_bytes s.end) + length piece) 8)) (count + sum_by message_size messages)
counts_more s new waiting messages piece begun count c fed ends adds fits =
    let added = going_on client_limit s.end piece in
    let a = added_by s.end piece in
    let bytes = a.bytes in
    let counted = c.counted in
    let unread : length (unread_bytes new.end) ≡ length (unread_bytes added.end) = ap (λ (e : End). length (unread_bytes e)) ends in
    let opens : version_room new.end ≡ version_room added.end = ap version_room ends in
    let sizes : sum_by message_size messages ≡ sum_by message_size added.messages = ap (λ (ms : List Message). sum_by message_size ms) adds in
    let all : sum_by message_size (waiting ++ messages) ≡ sum_by message_size waiting + sum_by message_size messages = sum_by-append message_size waiting messages in
    record {
      was_fed = fed;
      begins = sym (ap is_begun ends ∙ a.begun begun c.begins);
      counted = omega (arith, all, counted);
      within = omega (arith, bytes, counted, unread, opens, sizes, fits);
    }

-- the piece fits, if there is room for it
room_fits : (old : Conn) (s : Splitting) (waiting : List Message) (piece : List ℕ) (begun : Bool) (count : ℕ) → Counts s waiting begun count → s.end ≡ old.end → waiting ≡ old.waiting
    → length piece ≤ room old → length piece + (length (unread_bytes s.end) + sum_by message_size waiting) ≤ 33554432 + version_room s.end
room_fits old s waiting piece begun count c ends waits fits =
    let within = c.within in
    let counted = c.counted in
    let unread : length (unread_bytes s.end) ≡ length (unread_bytes old.end) = ap (λ (e : End). length (unread_bytes e)) ends in
    let opens : version_room s.end ≡ version_room old.end = ap version_room ends in
    let sizes : sum_by message_size waiting ≡ sum_by message_size old.waiting = ap (λ (ms : List Message). sum_by message_size ms) waits in
    omega (arith, within, counted, unread, opens, sizes, fits, room_is old, held_is old)

-- the same, if a connection reads a piece for which it has room
pub counts_read : (old : Conn) (s new : Splitting) (waiting messages : List Message) (piece : List ℕ) (begun : Bool) (count : ℕ) → Counts s waiting begun count
    → s.end ≡ old.end → waiting ≡ old.waiting → length piece ≤ room old → IsFed new
    → (messages ≡ (going_on client_limit s.end piece).messages) × (new.end ≡ (going_on client_limit s.end piece).end)
    → Counts new (waiting ++ messages) (begun || not (ltb (length (unread_bytes s.end) + length piece) 8)) (count + sum_by message_size messages)
counts_read old s new waiting messages piece begun count c ends waits fits fed added =
    counts_more s new waiting messages piece begun count c fed added.1 added.0 (room_fits old s waiting piece begun count c ends waits fits)

version_room_few : (end : End) → version_room end ≤ 8
version_room_few (Opening bytes) = omega arith
version_room_few (Rest bytes) = omega arith
version_room_few (Broken fault) = omega arith

-- a count of the bytes of messages that wait fits a word
pub count_fits : (s : Splitting) (waiting : List Message) (begun : Bool) (count : ℕ) → Counts s waiting begun count → count < 2 ^ 64
count_fits s waiting begun count c = let within = c.within in let few = version_room_few s.end in omega (arith, within, few)
