-- Messages as peer messages.
use Rattle.std.proofs.Common.{◌≡◌, ℕ, ◌+◌, ◌<◌, ◌≤◌, Bool, true, false, cond, nat_le, min, List, [], ◌∷◌, ◌++◌, map, take, length, set, get_or, add-one, zero, suc, Option, Some, None, refl, sym, ap, subst, ◌∙◌, arith}
use Rattle.std.specs.List.{AllByRecursion, sum_by}
use Rattle.std.specs.Option.{option_map}
use Rattle.std.proofs.lemmas.Bool.{leb-true, leb-false, lt-ltb, le-ltb}
use Rattle.std.proofs.lemmas.List.{take_all, take_more, length-map, map-append}
use Rattle.std.proofs.lemmas.List.Sums.{sum_by-cons}
use Rattle.raft_messages.specs.declared.message.RaftMessage.{RaftMessage}
use Rattle.raft_messages.specs.Messages.{message_bytes}
use Rattle.script_grammar.specs.declared.usage.Usage.{Usage}
use Rattle.script_grammar.specs.Usage.{with_messages}
use Rattle.script_cluster.specs.World.{Letter, letter_of, letters_of, bytes_in, first_waiting, arrived_at}
use Rattle.script_cluster.specs.declared.mail.Letter.{Letter as CodeLetter}
use Rattle.script_cluster.specs.Knowing.{CanHold}
use Rattle.script_cluster.specs.Seen.{HaveArrived, IsFirstWaiting, letter_seen}

-- ---- how many bytes

letters_size : (messages : List RaftMessage) → sum_by (λ (letter : Letter). length letter.bytes) (letters_of messages) ≡ bytes_in messages
letters_size [] = refl
letters_size (m ∷ messages) =
    sum_by-cons (λ (letter : Letter). length letter.bytes) (letter_of m) (letters_of messages)
    ∙ ap (λ (n : ℕ). length (message_bytes m) + n) (letters_size messages)
    ∙ sym (sum_by-cons (λ (x : RaftMessage). length (message_bytes x)) m messages)

-- a sum that is cut at the last number of 64 bits is too many as the sum itself is
cut_by : (usage : Usage) (size : ℕ) (fits below : Bool) → nat_le (usage.message_bytes + min size 18446744073709551615) 268435456 ≡ fits → nat_le (usage.message_bytes + size) 268435456 ≡ below
    → fits ≡ below
cut_by usage size true true f b = refl
cut_by usage size false false f b = refl
cut_by usage size true false f b = let l : usage.message_bytes + min size 18446744073709551615 ≤ 268435456 = leb-true _ _ f in let m : 268435456 < usage.message_bytes + size = leb-false _ _ b in absurd (omega (arith, l, m))
cut_by usage size false true f b = let l : 268435456 < usage.message_bytes + min size 18446744073709551615 = leb-false _ _ f in let m : usage.message_bytes + size ≤ 268435456 = leb-true _ _ b in absurd (omega (arith, l, m))

sum_stays : (usage : Usage) (size : ℕ) (fits : Bool) → nat_le (usage.message_bytes + min size 18446744073709551615) 268435456 ≡ fits → nat_le (usage.message_bytes + size) 268435456 ≡ fits
    → with_messages usage (min size 18446744073709551615) ≡ with_messages usage size
sum_stays usage size true f b =
    let l : usage.message_bytes + size ≤ 268435456 = leb-true _ _ b in
    let e : min size 18446744073709551615 ≡ size = omega (arith, l) in
    ap (λ (n : ℕ). with_messages usage n) e
sum_stays usage size false f b =
    ap (λ (t : Bool). cond t (Some (record { events = usage.events; message_bytes = usage.message_bytes + min size 18446744073709551615 })) None) f
    ∙ sym (ap (λ (t : Bool). cond t (Some (record { events = usage.events; message_bytes = usage.message_bytes + size })) None) b)

pub sized : (usage : Usage) (letters : List Letter) (result : Option Usage) (size : ℕ) → size ≡ min (sum_by (λ (letter : Letter). length letter.bytes) letters) 18446744073709551615 → result ≡ with_messages usage size
    → (messages : List RaftMessage) → letters ≡ letters_of messages → result ≡ with_messages usage (bytes_in messages)
sized usage letters result size is gives messages are =
    let whole : sum_by (λ (letter : Letter). length letter.bytes) letters ≡ bytes_in messages =
    ap (λ (all : List Letter). sum_by (λ (letter : Letter). length letter.bytes) all) are ∙ letters_size messages in
    let same : nat_le (usage.message_bytes + bytes_in messages) 268435456 ≡ nat_le (usage.message_bytes + min (bytes_in messages) 18446744073709551615) 268435456 =
    sym (cut_by usage (bytes_in messages) _ _ refl refl) in
    gives ∙ ap (λ (n : ℕ). with_messages usage n) (is ∙ ap (λ (n : ℕ). min n 18446744073709551615) whole) ∙ sum_stays usage (bytes_in messages) _ refl same

-- ---- which has never arrived

pub waits_here : (mail : List Letter) (from : ℕ) (d : Letter) → HaveArrived (take from mail) → from < length mail → (get_or mail from d).arrived ≡ false → first_waiting mail ≡ Some from
waits_here (letter ∷ mail) zero d arrived within waits = ap (λ (b : Bool). cond b (option_map (λ (place : ℕ). suc place) (first_waiting mail)) (Some 0)) waits
waits_here [] from d arrived within waits = absurd (omega (arith, within))
waits_here (letter ∷ mail) (suc from) d arrived within waits =
    ap (λ (b : Bool). cond b (option_map (λ (place : ℕ). suc place) (first_waiting mail)) (Some 0)) arrived.0
    ∙ ap (option_map (λ (place : ℕ). suc place)) (waits_here mail from d arrived.1 (omega (arith, within)) waits)

pub none_waits : (mail : List Letter) → HaveArrived mail → first_waiting mail ≡ None
none_waits [] arrived = refl
none_waits (letter ∷ mail) arrived =
    ap (λ (b : Bool). cond b (option_map (λ (place : ℕ). suc place) (first_waiting mail)) (Some 0)) arrived.0
    ∙ ap (option_map (λ (place : ℕ). suc place)) (none_waits mail arrived.1)

-- one more has arrived
one_more : (mail : List Letter) (n : ℕ) (d : Letter) → HaveArrived (take n mail) → n < length mail → (get_or mail n d).arrived ≡ true → HaveArrived (take (suc n) mail)
one_more [] n d arrived within is = absurd (omega (arith, within))
one_more (letter ∷ mail) zero d arrived within is = (is, tt)
one_more (letter ∷ mail) (suc n) d arrived within is = (arrived.0, one_more mail n d arrived.1 (omega (arith, within)) is)

pub one_arrived : (mail : List Letter) (n : ℕ) (d : Letter) → HaveArrived (take n mail) → n < length mail → (get_or mail n d).arrived ≡ true → HaveArrived (take (n + 1) mail)
one_arrived mail n d arrived within is = rw add-one (one_more mail n d arrived within is)

-- ---- marking

-- a peer message at a place is marked
pub marked : (mail : List Letter) (place : ℕ) (d : Letter) → place < length mail → arrived_at mail place ≡ set mail place (record (get_or mail place d) { arrived = true })
marked [] place d within = absurd (omega (arith, within))
marked (letter ∷ mail) zero d within = refl
marked (letter ∷ mail) (suc place) d within = ap (λ (all : List Letter). letter ∷ all) (marked mail place d (omega (arith, within)))

-- those in front stay marked
pub still_arrived : (mail : List Letter) (place front : ℕ) → HaveArrived (take front mail) → HaveArrived (take front (arrived_at mail place))
still_arrived mail place zero arrived = tt
still_arrived [] place (suc front) arrived = tt
still_arrived (letter ∷ mail) zero (suc front) arrived = (refl, arrived.1)
still_arrived (letter ∷ mail) (suc place) (suc front) arrived = (arrived.0, still_arrived mail place front arrived.1)

pub length_stays : (mail : List Letter) (place : ℕ) → length (arrived_at mail place) ≡ length mail
length_stays [] place = refl
length_stays (letter ∷ mail) zero = refl
length_stays (letter ∷ mail) (suc place) = ap suc (length_stays mail place)

-- those in front stay where others join
pub front_stays : (mail more : List Letter) (front : ℕ) → front ≤ length mail → HaveArrived (take front mail) → HaveArrived (take front (mail ++ more))
front_stays mail more zero within arrived = tt
front_stays [] more (suc front) within arrived = absurd (omega (arith, within))
front_stays (letter ∷ mail) more (suc front) within arrived = (arrived.0, front_stays mail more front (omega (arith, within)) arrived.1)

-- ---- peer messages as the code has them

pub marked_code : (letters : List CodeLetter) (place : ℕ) (at : CodeLetter) → at ≡ get_or letters place at
    → map letter_seen (set letters place (record { to = at.to; bytes = at.bytes; has_arrived = true })) ≡ arrived_at (map letter_seen letters) place
marked_code [] place at is = refl
marked_code (letter ∷ letters) zero at is = λ i. record { to = (is i).to; bytes = (is i).bytes; arrived = true } ∷ map letter_seen letters
marked_code (letter ∷ letters) (suc place) at is = ap (λ (all : List Letter). letter_seen letter ∷ all) (marked_code letters place at is)

pub marked_whole : (letters : List CodeLetter) (place : ℕ) (at : CodeLetter) (front : ℕ) → at ≡ get_or letters place at
    → (front ≤ length (map letter_seen letters)) × HaveArrived (take front (map letter_seen letters))
    → (front ≤ length (map letter_seen (set letters place (record { to = at.to; bytes = at.bytes; has_arrived = true }))))
    × HaveArrived (take front (map letter_seen (set letters place (record { to = at.to; bytes = at.bytes; has_arrived = true }))))
marked_whole letters place at front is whole =
    subst (λ (mail : List Letter). (front ≤ length mail) × HaveArrived (take front mail)) (sym (marked_code letters place at is))
    (subst (λ (n : ℕ). front ≤ n) (sym (length_stays (map letter_seen letters) place)) whole.0, still_arrived (map letter_seen letters) place front whole.1)

seen_at : (letters : List CodeLetter) (place : ℕ) (e : CodeLetter) (d : Letter) → place < length letters → (get_or (map letter_seen letters) place d).arrived ≡ (get_or letters place e).has_arrived
seen_at [] place e d within = absurd (omega (arith, within))
seen_at (letter ∷ letters) zero e d within = refl
seen_at (letter ∷ letters) (suc place) e d within = seen_at letters place e d (omega (arith, within))

no_letter : Letter
no_letter = record { to = 0; bytes = []; arrived = false }

within_seen : (letters : List CodeLetter) (place : ℕ) → place < length letters → place < length (map letter_seen letters)
within_seen letters place within = subst (λ (n : ℕ). place < n) (sym (length-map letters letter_seen)) within

-- the loop's item has not arrived
pub waits_at : (letters : List CodeLetter) (from place : ℕ) (at : CodeLetter) → place < length letters → (get_or letters place at).has_arrived ≡ false
    → (HaveArrived (take from (map letter_seen letters)) → HaveArrived (take place (map letter_seen letters))) → IsFirstWaiting (map letter_seen letters) from place
waits_at letters from place at within waits so_far arrived =
    waits_here (map letter_seen letters) place no_letter (so_far arrived) (within_seen letters place within) (seen_at letters place at no_letter within ∙ waits)
    ∙ sym (ap (λ (b : Bool). cond b (Some place) None) (lt-ltb place (length (map letter_seen letters)) (within_seen letters place within)))

-- it has
pub one_more_at : (letters : List CodeLetter) (from place : ℕ) (at : CodeLetter) → place < length letters → (get_or letters place at).has_arrived ≡ true
    → (HaveArrived (take from (map letter_seen letters)) → HaveArrived (take place (map letter_seen letters)))
    → (place + 1 ≤ length letters) × (HaveArrived (take from (map letter_seen letters)) → HaveArrived (take (place + 1) (map letter_seen letters)))
one_more_at letters from place at within has so_far =
    (omega (arith, within), λ arrived. one_arrived (map letter_seen letters) place no_letter (so_far arrived) (within_seen letters place within) (seen_at letters place at no_letter within ∙ has))

all_take : (mail : List Letter) (n : ℕ) → length mail ≤ n → HaveArrived (take n mail) → HaveArrived mail
all_take mail n within arrived = subst HaveArrived (take_all n mail within) arrived

-- no peer message is left
pub none_left : (letters : List CodeLetter) (from place : ℕ) → place ≤ length letters → length letters ≤ place → (HaveArrived (take from (map letter_seen letters)) → HaveArrived (take place (map letter_seen letters)))
    → IsFirstWaiting (map letter_seen letters) from place
none_left letters from place within past so_far arrived =
    let most : length (map letter_seen letters) ≤ place = subst (λ (n : ℕ). n ≤ place) (sym (length-map letters letter_seen)) past in
    none_waits (map letter_seen letters) (all_take (map letter_seen letters) place most (so_far arrived))
    ∙ sym (ap (λ (b : Bool). cond b (Some place) None) (le-ltb place (length (map letter_seen letters)) most))

-- one more peer message for one more message
pub written_more : (letters new : List CodeLetter) (letter : CodeLetter) (messages : List RaftMessage) (i : ℕ) (m : RaftMessage) → new ≡ letters ++ letter ∷ [] → letter_seen letter ≡ letter_of m → m ≡ get_or messages i m
    → i < length messages → map letter_seen letters ≡ letters_of (take i messages) → map letter_seen new ≡ letters_of (take (i + 1) messages)
written_more letters new letter messages i m push is item within before =
    ap (λ (all : List CodeLetter). map letter_seen all) push
    ∙ map-append letter_seen letters (letter ∷ [])
    ∙ ap (λ (all : List Letter). all ++ letter_seen letter ∷ []) before
    ∙ ap (λ (l : Letter). letters_of (take i messages) ++ l ∷ []) (is ∙ ap letter_of item)
    ∙ sym (map-append letter_of (take i messages) (get_or messages i m ∷ []))
    ∙ ap letters_of (sym (take_more messages i m within))

-- ---- what the wire can hold

all_behind : (xs ys : List RaftMessage) → AllByRecursion CanHold xs → AllByRecursion CanHold ys → AllByRecursion CanHold (xs ++ ys)
all_behind [] ys a b = b
all_behind (x ∷ xs) ys a b = (a.0, all_behind xs ys a.1 b)

pub held_more : (messages : List RaftMessage) (i : ℕ) (m : RaftMessage) → m ≡ get_or messages i m → i < length messages → CanHold m → AllByRecursion CanHold (take i messages) → AllByRecursion CanHold (take (i + 1) messages)
held_more messages i m item within hold before =
    subst (AllByRecursion CanHold) (sym (take_more messages i m within))
    (all_behind (take i messages) (get_or messages i m ∷ []) before (subst CanHold item hold, tt))

pub held_whole : (messages : List RaftMessage) (i : ℕ) → length messages ≤ i → AllByRecursion CanHold (take i messages) → AllByRecursion CanHold messages
held_whole messages i past all = subst (AllByRecursion CanHold) (take_all i messages past) all
