-- A number of 32 bits that shares its word with a shorter one.
use Rattle.std.proofs.Common.{◌≡◌, ℕ, ◌<◌, ◌^◌, ◌%◌, ◌/◌, List, [], ◌∷◌, ◌++◌, length, take, drop, get_or, Ok, refl, sym, ap, subst, ◌∙◌, arith}
use Rattle.std.specs.Int.{w16, from_le_bytes}
use Rattle.std.proofs.lemmas.List.{take_all, take_more, take-append-drop, length-drop}
use Rattle.std.proofs.lemmas.Nat.{le_bytes_2}
use Rattle.byteorder.specs.Endian.{little_bytes, little_number}
use Rattle.byteorder.specs.Numbers.{little_from-lt, little_number-reads_back}
use Rattle.wire_words.specs.Items.{pair, raw, zeros_after, AreBytes}
use Rattle.wire_words.specs.Reading.{Unread, raw_at}
use Rattle.wire_words.proofs.ReadBack.{bind_ok, ok_is}
use Rattle.wire_words.proofs.Numbers.{bytes_of_number_4, AreBytes-drop}
use Rattle.log_commands.specs.Reading.{flagged_at, sized_at}
use Rattle.wire_words.proofs.Passing.{Passed, bytes_of, raw_passed, raw_stood}

-- the bytes of a number and a byte
abbrev pub flagged : ℕ → ℕ → List ℕ
flagged number flag = little_bytes 4 number ++ flag ∷ []

-- the bytes of a number and one of 16 bits
abbrev pub sized : ℕ → ℕ → List ℕ
sized number size = little_bytes 4 number ++ little_bytes 2 size

flagged_is : (number flag : ℕ) → flag < 256 → raw (flagged number flag) ≡ pair number flag
flagged_is number flag fits =
    let low : flag % 256 ≡ flag = omega arith in
    let next : flag / 256 % 256 ≡ 0 = omega arith in
    let third : flag / 65536 % 256 ≡ 0 = omega arith in
    let last : flag / 16777216 % 256 ≡ 0 = omega arith in
    rw (low, next, third, last) refl

sized_is : (number size : ℕ) → size < 65536 → raw (sized number size) ≡ pair number size
sized_is number size fits =
    let third : size / 65536 % 256 ≡ 0 = omega arith in
    let last : size / 16777216 % 256 ≡ 0 = omega arith in
    rw (third, last) refl

-- the item of a flag is its number and its flag
flagged_item : (item : List ℕ) → length item ≡ 5 → AreBytes item → item ≡ flagged (little_number 4 item) (get_or item 4 0)
flagged_item item len fits =
    sym (take_all 5 item (omega (arith, len))) ∙ take_more item 4 0 (omega (arith, len)) ∙ ap (λ (x : List ℕ). x ++ get_or item 4 0 ∷ []) (sym (bytes_of_number_4 item (omega (arith, len)) fits))

le_number_2 : (bytes : List ℕ) → little_number 2 bytes ≡ from_le_bytes w16 bytes
le_number_2 bytes = omega arith

sized_item : (item : List ℕ) → length item ≡ 6 → AreBytes item → item ≡ sized (little_number 4 item) (little_number 2 (drop 4 item))
sized_item item len fits =
    let front : take 4 item ≡ little_bytes 4 (little_number 4 item) = sym (bytes_of_number_4 item (omega (arith, len)) fits) in
    let end : little_bytes 2 (little_number 2 (drop 4 item)) ≡ drop 4 item =
    le_bytes_2 (drop 4 item) (little_number 2 (drop 4 item)) (omega (arith, len, length-drop 4 item)) (AreBytes-drop 4 item fits) (le_number_2 (drop 4 item)) in
    sym (take-append-drop 4 item) ∙ ap (λ (x : List ℕ). x ++ drop 4 item) front ∙ ap (λ (x : List ℕ). little_bytes 4 (little_number 4 item) ++ x) (sym end)

-- two numbers that were in one word
pub record PassedPair (first second limit : ℕ) (old new : Unread) : Type 0 where
  pub first_fits : first < 2 ^ 32
  pub second_fits : second < limit
  pub passed : Passed (pair first second) old new

pub flagged_passed : (old new : Unread) (numbers : ℕ × ℕ) → AreBytes old.bytes → flagged_at old ≡ Ok (numbers, new) → PassedPair numbers.0 numbers.1 256 old new
unfolding flagged_at
flagged_passed old new numbers fits e =
    let a = bind_ok (raw_at 5 old) (λ item. Ok ((little_number 4 item.0, get_or item.0 4 0), item.1)) (numbers, new) e in
    let item = a.0.0 in
    let made : (ℕ × ℕ) × Unread = ((little_number 4 item, get_or item 4 0), a.0.1) in
    let p = raw_passed 5 old a.0.1 item a.1 in
    let bytes = bytes_of item (zeros_after (length item)) old a.0.1 p.1 fits in
    let spelled : raw item ≡ pair (little_number 4 item) (get_or item 4 0) =
    ap raw (flagged_item item p.0 bytes) ∙ flagged_is (little_number 4 item) (get_or item 4 0) (bytes 4) in
    subst (λ (x : (ℕ × ℕ) × Unread). PassedPair x.0.0 x.0.1 256 old x.1) (ok_is made (numbers, new) a.2)
    (record { first_fits = little_from-lt 0 4 item bytes; second_fits = bytes 4; passed = subst (λ (x : List ℕ). Passed x old a.0.1) spelled p.1 })

pub sized_passed : (old new : Unread) (numbers : ℕ × ℕ) → AreBytes old.bytes → sized_at old ≡ Ok (numbers, new) → PassedPair numbers.0 numbers.1 65536 old new
unfolding sized_at
sized_passed old new numbers fits e =
    let a = bind_ok (raw_at 6 old) (λ item. Ok ((little_number 4 item.0, little_number 2 (drop 4 item.0)), item.1)) (numbers, new) e in
    let item = a.0.0 in
    let made : (ℕ × ℕ) × Unread = ((little_number 4 item, little_number 2 (drop 4 item)), a.0.1) in
    let p = raw_passed 6 old a.0.1 item a.1 in
    let bytes = bytes_of item (zeros_after (length item)) old a.0.1 p.1 fits in
    let below : little_number 2 (drop 4 item) < 65536 = little_from-lt 0 2 (drop 4 item) (AreBytes-drop 4 item bytes) in
    let spelled : raw item ≡ pair (little_number 4 item) (little_number 2 (drop 4 item)) =
    ap raw (sized_item item p.0 bytes) ∙ sized_is (little_number 4 item) (little_number 2 (drop 4 item)) below in
    subst (λ (x : (ℕ × ℕ) × Unread). PassedPair x.0.0 x.0.1 65536 old x.1) (ok_is made (numbers, new) a.2)
    (record { first_fits = little_from-lt 0 4 item bytes; second_fits = below; passed = subst (λ (x : List ℕ). Passed x old a.0.1) spelled p.1 })

pub flagged_stood : (old new : Unread) (number flag : ℕ) → number < 2 ^ 32 → flag < 256 → Passed (pair number flag) old new → flagged_at old ≡ Ok ((number, flag), new)
unfolding flagged_at
flagged_stood old new number flag fits few p =
    let item : List ℕ = flagged number flag in
    let read : raw_at 5 old ≡ Ok (item, new) = raw_stood 5 old new item refl (subst (λ (x : List ℕ). Passed x old new) (sym (flagged_is number flag few)) p) in
    let first : little_number 4 item ≡ number = little_number-reads_back 4 number (flag ∷ []) fits in
    rw (read, first) refl

pub sized_stood : (old new : Unread) (number size : ℕ) → number < 2 ^ 32 → size < 65536 → Passed (pair number size) old new → sized_at old ≡ Ok ((number, size), new)
unfolding sized_at
sized_stood old new number size fits few p =
    let item : List ℕ = sized number size in
    let read : raw_at 6 old ≡ Ok (item, new) = raw_stood 6 old new item refl (subst (λ (x : List ℕ). Passed x old new) (sym (sized_is number size few)) p) in
    let first : little_number 4 item ≡ number = little_number-reads_back 4 number (little_bytes 2 size) fits in
    let second : little_number 2 (drop 4 item) ≡ size = little_number-reads_back 2 size [] few in
    rw (read, first, second) refl
