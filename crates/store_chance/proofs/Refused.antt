-- The wrong crashes and checks are refused.
use Rattle.std.proofs.Common.{◌≡◌, ⊎_elim, ℕ, zero, suc, ◌≤◌, true≢false, List, [], ◌∷◌, length, take, drop, refl, sym, ap, ◌∙◌, arith, length-append}
use Rattle.std.proofs.lemmas.List.{take_at, drop_at}
use Rattle.disk_model.specs.Disk.{Found, found}
use Rattle.disk_model.specs.Memory.{outcome}
use Rattle.store_chance.specs.Chance.{torn}
use Rattle.store_chance.specs.Wrong.{NoEmptyFile, NoLastHalf, NoMissedChance, NoFalseAlarm, NoStrangeBatch}
use Rattle.store_chance.proofs.Chance.{picks_leave_three, checks_suffice, checks_are_chance}
use Rattle.store_chance.proofs.Reached.{whole_writes_are_fair}

bytes_of : (x : Found) (old : List ℕ) → x ≡ found old → x.bytes ≡ old
bytes_of x old is = ap (λ (y : Found). y.bytes) is

front_size : (n : ℕ) (xs : List ℕ) → n ≤ length xs → length (take n xs) ≡ n
front_size zero xs le = refl
front_size (suc n) [] le = absurd (omega (arith, le))
front_size (suc n) (x ∷ xs) le = let t : length (take n xs) ≡ n = front_size n xs (omega (arith, le)) in ap suc t

torn_front : (old new : List ℕ) → length new ≡ 40 → take 20 (torn old new) ≡ take 20 new
torn_front old new size = take_at (take 20 new) (drop 20 old) 20 (front_size 20 new (omega (arith, size)))

torn_rest : (old new : List ℕ) → length new ≡ 40 → drop 20 (torn old new) ≡ drop 20 old
torn_rest old new size = drop_at (take 20 new) (drop 20 old) 20 (front_size 20 new (omega (arith, size)))

no_room : (xs : List ℕ) (n : ℕ) → [] ≡ xs → suc n ≤ length xs → ⊥
no_room xs n is le = let none : 0 ≡ length xs = ap length is in omega (arith, none, le)

torn_size : (old new : List ℕ) → length new ≡ 40 → 20 ≤ length (torn old new)
torn_size old new size = omega (arith, length-append (take 20 new) (drop 20 old), front_size 20 new (omega (arith, size)))

pub no_empty_file : NoEmptyFile
no_empty_file m name old new pick one is =
    let none = bytes_of (outcome pick m name) [] is in
    ⊎_elim
    (λ s. no_room old 39 (sym none ∙ bytes_of (outcome pick m name) old s) (omega (arith, one.old_size)))
    (λ h. ⊎_elim
    (λ s. no_room new 39 (sym none ∙ bytes_of (outcome pick m name) new s) (omega (arith, one.new_size)))
    (λ s. no_room (torn old new) 19 (sym none ∙ bytes_of (outcome pick m name) (torn old new) s) (torn_size old new one.new_size))
    h)
    (picks_leave_three m name old new pick one)

pub no_last_half : NoLastHalf
no_last_half m name old new pick one fronts rests is =
    let left = bytes_of (outcome pick m name) (torn new old) is in
    let front = torn_front new old one.old_size in
    let rest = torn_rest new old one.old_size in
    ⊎_elim
    (λ s. rests (sym (ap (drop 20) (sym left ∙ bytes_of (outcome pick m name) old s)) ∙ rest))
    (λ h. ⊎_elim
    (λ s. fronts (sym front ∙ ap (take 20) (sym left ∙ bytes_of (outcome pick m name) new s)))
    (λ s. fronts (sym front ∙ ap (take 20) (sym left ∙ bytes_of (outcome pick m name) (torn old new) s) ∙ torn_front old new one.new_size))
    h)
    (picks_leave_three m name old new pick one)

pub no_missed_chance : NoMissedChance
no_missed_chance side h wrote content was stamp never silent = never ((checks_suffice side h wrote content was silent).whole stamp)

pub no_false_alarm : NoFalseAlarm
no_false_alarm m name old new pick one unread alarm = true≢false (sym (checks_are_chance m name old new pick one alarm) ∙ unread)

pub no_strange_batch : NoStrangeBatch
no_strange_batch h a b front rest writes split whole some never = never ((whole_writes_are_fair h a b writes).each front rest split whole some)
