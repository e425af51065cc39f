-- Sums of what waits.
use Rattle.std.proofs.Common.{◌≡◌, ◌+◌, ◌-◌, ◌<◌, ◌≤◌, ℕ, zero, suc, List, [], ◌∷◌, ◌++◌, length, get_or, set, replicate, refl, sym, ap, ◌∙◌, arith}
use Rattle.std.proofs.Common.{get_or-set_same, le_of_suc-le-suc, not-suc-le-zero}
use Rattle.serve_places.specs.Numbers.{AreFresh}
use Rattle.serve_places.specs.Rooms.{common_bytes, waiting_bytes}

no_number : (n socket : ℕ) → ◌≡◌ {A = ℕ} (get_or (replicate n 0) socket 0) 0
no_number zero socket = refl
no_number (suc n) zero = refl
no_number (suc n) (suc socket) = no_number n socket

-- no number was given
pub fresh_numbers : (n : ℕ) (places : List ℕ) → places ≡ replicate n 0 → AreFresh (record { next = 1; places = places })
fresh_numbers n places all = record {
  next = refl;
  none = λ socket. ap (λ (ps : List ℕ). get_or ps socket 0) all ∙ no_number n socket;
}

-- nothing waits
pub none_waits : (ms : List (List ℕ)) → ms ≡ [] → 0 ≡ waiting_bytes ms
unfolding waiting_bytes
none_waits [] none = refl
none_waits (m ∷ ms) none = absurd cc

more_waits : (ms : List (List ℕ)) (m : List ℕ) → waiting_bytes (ms ++ m ∷ []) ≡ waiting_bytes ms + (length m + 256)
unfolding waiting_bytes
more_waits [] m = omega arith
more_waits (x ∷ ms) m = let more : waiting_bytes (ms ++ m ∷ []) ≡ waiting_bytes ms + (length m + 256) = more_waits ms m in omega arith

-- a reply more waits
pub one_more : (held size : ℕ) (ms new : List (List ℕ)) (m : List ℕ) → held ≡ waiting_bytes ms → size ≡ length m + 256 → new ≡ ms ++ m ∷ [] →
    held + size ≡ waiting_bytes new
one_more held size ms new m counted sized added =
    let more : waiting_bytes (ms ++ m ∷ []) ≡ waiting_bytes ms + (length m + 256) = more_waits ms m in
    let all : waiting_bytes new ≡ waiting_bytes (ms ++ m ∷ []) = ap waiting_bytes added in
    omega arith

-- the first reply waits no more
pub one_less : (held size : ℕ) (ms new : List (List ℕ)) (m : List ℕ) → held ≡ waiting_bytes ms → held ≤ 33554432 →
    (length m + 256 ≤ 33554432 → size ≡ length m + 256) → ms ≡ m ∷ new → held - size ≡ waiting_bytes new
unfolding waiting_bytes
one_less held size ms new m counted bounded sized first =
    let all : held ≡ length m + 256 + waiting_bytes new = counted ∙ ap waiting_bytes first in
    let exact : size ≡ length m + 256 = sized (omega arith) in
    omega arith

pub fewer : (held size : ℕ) → held ≤ 33554432 → held - size ≤ 33554432
fewer held size bounded = omega arith

pub none_less : (held : ℕ) (ms new : List (List ℕ)) → held ≡ waiting_bytes ms → ms ≡ new → held ≡ waiting_bytes new
none_less held ms new counted same = counted ∙ ap waiting_bytes same

none_of : (n : ℕ) → 0 ≡ common_bytes (replicate n 0)
unfolding common_bytes
none_of zero = refl
none_of (suc n) = let more : 0 ≡ common_bytes (replicate n 0) = none_of n in omega arith

-- no socket has anything
pub none_common : (n : ℕ) (lent : List ℕ) → lent ≡ replicate n 0 → 0 ≡ common_bytes lent
none_common n lent all = none_of n ∙ ap common_bytes (sym all)

-- what one has is part of what all have
part : (lent : List ℕ) (i : ℕ) → get_or lent i 0 ≤ common_bytes lent
unfolding common_bytes
part [] i = omega arith
part (x ∷ lent) zero = omega arith
part (x ∷ lent) (suc i) = let more : get_or lent i 0 ≤ common_bytes lent = part lent i in omega arith

changed : (lent : List ℕ) (i w : ℕ) → i < length lent → common_bytes (set lent i w) + get_or lent i 0 ≡ common_bytes lent + w
unfolding common_bytes
changed [] i w lt = absurd (not-suc-le-zero lt)
changed (x ∷ lent) zero w lt = omega arith
changed (x ∷ lent) (suc i) w lt =
    let more : common_bytes (set lent i w) + get_or lent i 0 ≡ common_bytes lent + w = changed lent i w (le_of_suc-le-suc lt) in
    omega arith

-- one has another number
pub counted_anew : (lent now : List ℕ) (i w was common others sum : ℕ) → common ≡ common_bytes lent → i < length lent → was ≡ get_or lent i 0 →
    others ≡ common - was → sum ≡ others + w → now ≡ set lent i w → sum ≡ common_bytes now
counted_anew lent now i w was common others sum counted lt old rest added new =
    let less : get_or lent i 0 ≤ common_bytes lent = part lent i in
    let moved : common_bytes (set lent i w) + get_or lent i 0 ≡ common_bytes lent + w = changed lent i w lt in
    let same : common_bytes now ≡ common_bytes (set lent i w) = ap common_bytes new in
    omega arith

pub lent_now : (lent now : List ℕ) (i w waiting : ℕ) → i < length lent → w ≡ waiting - 1048576 → now ≡ set lent i w → get_or now i 0 ≡ waiting - 1048576
lent_now lent now i w waiting lt is new = ap (λ (x : List ℕ). get_or x i 0) new ∙ get_or-set_same lent i w 0 lt ∙ is
