-- What a splitter holds, and what it represents.
use Rattle.std.proofs.Common.{◌≡◌, ◌+◌, ℕ, Bool, true, false, List, [], length, take, Option, Some, None, is_some, refl, ap, arith}
use Rattle.std.proofs.lemmas.List.{length-append, length-take-le}
use Rattle.wire_words.specs.declared.splitter.SplitFault.{SplitFault}
use Rattle.wire_words.specs.declared.unfinished.Unfinished.{Unfinished}
use Rattle.wire_words.specs.Stream.{front, end_with, unread_bytes}
use Rattle.wire_words.specs.Holding.{Holds, IsHead, held_bytes}

head_short : (u : Unfinished) → IsHead u → held_bytes u ≡ [] → u.head_len ≡ 0
head_short u head nothing =
    let size = ap length nothing in
    let front = length-take-le u.head_len u.head (omega (arith, head.width, head.short)) in
    omega (arith, size, front, length-append (take u.head_len u.head) u.body.items)

-- if nothing is unread, no message is whole
pub holds_nothing : (limit : ℕ) (u : Unfinished) → IsHead u → held_bytes u ≡ [] → Holds limit u
unfolding front
holds_nothing limit u head nothing = record {
  head = head;
  part = rw nothing refl;
  opening = λ _. omega (arith, head_short u head nothing);
}

unread_is : (begun : Bool) (bytes : List ℕ) → unread_bytes (end_with None begun bytes) ≡ bytes
unread_is true bytes = refl
unread_is false bytes = refl

-- without a fault as many bytes are unread as are held
pub held_size : (fault : Option SplitFault) (u : Unfinished) → is_some fault ≡ false → IsHead u
    → u.head_len + length u.body.items ≡ length (unread_bytes (end_with fault u.begun (held_bytes u)))
held_size None u none head =
    let unread = ap length (unread_is u.begun (held_bytes u)) in
    let front = length-take-le u.head_len u.head (omega (arith, head.width, head.short)) in
    omega (arith, unread, front, length-append (take u.head_len u.head) u.body.items)
held_size (Some f) u none head = absurd cc
