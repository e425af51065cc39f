-- A word is read exactly if the bytes are its encoding.
use Rattle.std.proofs.Common.{◌≡◌, ℕ, ◌+◌, ◌^◌, ◌<◌, ◌≤◌, Bool, true, false, cond, ltb, List, ◌++◌, length, take, drop, Result, Ok, Err, refl, sym, ap, ◌∙◌, append_assoc, arith}
use Rattle.std.proofs.lemmas.Bool.{ltb-false, le-ltb}
use Rattle.std.proofs.lemmas.List.{take-append-drop, take-take, drop-take, length-append, length-drop, drop_at}
use Rattle.byteorder.specs.Endian.{little_bytes, little_number}
use Rattle.byteorder.specs.Numbers.{little_from-lt, little_number-reads_back}
use Rattle.wire_words.specs.declared.fault.WordFault.{WordFault}
use Rattle.wire_words.specs.declared.fault.WordFault.TheVariants.{Short}
use Rattle.wire_words.specs.Items.{AreBytes, IsWord, IsPair}
use Rattle.wire_words.specs.Reading.{◌>>=◌, Unread, past, word_at, pair_at, Took}
use Rattle.wire_words.proofs.Numbers.{bytes_of_number_8, bytes_of_number_4, AreBytes-drop}

-- a test that did not fail
pub refused_not : {A E : Type 0} (b : Bool) (fault : E) (r : Result A E) (y : A) → cond b (Err fault) r ≡ Ok y → (b ≡ false) × (r ≡ Ok y)
refused_not true fault r y e = absurd cc
refused_not false fault r y e = (refl, e)

pub passed : {A E : Type 0} (b : Bool) (fault : E) (r : Result A E) (y : A) → cond b r (Err fault) ≡ Ok y → (b ≡ true) × (r ≡ Ok y)
passed true fault r y e = (refl, e)
passed false fault r y e = absurd cc

abbrev done : {A : Type 0} → A → Result A WordFault
done x = Ok x

pub ok_is : {A : Type 0} (x y : A) → done x ≡ done y → x ≡ y
ok_is x y e = cc

-- the value and what is left, of a reading that gave both
pub firsts : {A : Type 0} (x y : A × Unread) → x ≡ y → x.0 ≡ y.0
firsts x y e = ap (λ p. p.0) e

pub seconds : {A : Type 0} (x y : A × Unread) → x ≡ y → x.1 ≡ y.1
seconds x y e = ap (λ p. p.1) e

abbrev at_place : ℕ → List ℕ → Unread
at_place place bytes = record { at = place; bytes = bytes }

pub same_unread : (a b : Unread) → a.at ≡ b.at → a.bytes ≡ b.bytes → a ≡ b
same_unread a b e f = ap (λ (place : ℕ). at_place place a.bytes) e ∙ ap (at_place b.at) f

-- what was after n bytes, if they are the item
pub past_is : (old new : Unread) (item : List ℕ) → old.bytes ≡ item ++ new.bytes → new.at ≡ old.at + length item → past (length item) old ≡ new
past_is old new item parts place =
    same_unread (past (length item) old) new (sym place) (ap (drop (length item)) parts ∙ drop_at item new.bytes (length item) refl)

-- the bytes were the item and what is left
pub parts_are : (old new : Unread) (size : ℕ) (item : List ℕ) → take size old.bytes ≡ item → past size old ≡ new → old.bytes ≡ item ++ new.bytes
parts_are old new size item front after =
    sym (take-append-drop size old.bytes) ∙ ap (λ (bytes : List ℕ). bytes ++ drop size old.bytes) front ∙ ap (λ (left : Unread). item ++ left.bytes) after

pub word_took : (old new : Unread) (n : ℕ) → AreBytes old.bytes → word_at old ≡ Ok (n, new) → Took (IsWord n) old new
unfolding word_at
word_took old new n fits e =
    let made : ℕ × Unread = (little_number 8 old.bytes, past 8 old) in
    let g = refused_not (ltb (length old.bytes) 8) (Short old.at) (Ok made) (n, new) e in
    let is : made ≡ (n, new) = ok_is made (n, new) g.1 in
    let long : 8 ≤ length old.bytes = ltb-false _ _ g.0 in
    let value : little_number 8 old.bytes ≡ n = firsts made (n, new) is in
    let after : past 8 old ≡ new = seconds made (n, new) is in
    let front : take 8 old.bytes ≡ little_bytes 8 n = sym (bytes_of_number_8 old.bytes long fits) ∙ ap (little_bytes 8) value in
    let below : n < 2 ^ 64 = rw (← value) (little_from-lt 0 8 old.bytes fits) in
    let parts = parts_are old new 8 (little_bytes 8 n) front after in
    let place : new.at ≡ old.at + 8 = rw (← after) refl in
    record { item = little_bytes 8 n; spelled = record { fits = below; parts = refl }; parts = parts; place = place }

pub word_again : (old new : Unread) (n : ℕ) → Took (IsWord n) old new → word_at old ≡ Ok (n, new)
unfolding word_at
word_again old new n t =
    let parts : old.bytes ≡ little_bytes 8 n ++ new.bytes = t.parts ∙ ap (λ (b : List ℕ). b ++ new.bytes) t.spelled.parts in
    let place : new.at ≡ old.at + 8 = t.place ∙ ap (λ (b : List ℕ). old.at + length b) t.spelled.parts in
    let long : ltb (length old.bytes) 8 ≡ false = le-ltb _ _ (omega (arith, ap length parts, length-append (little_bytes 8 n) new.bytes)) in
    let number : little_number 8 old.bytes ≡ n = ap (little_number 8) parts ∙ little_number-reads_back 8 n new.bytes t.spelled.fits in
    rw (long, number, past_is old new (little_bytes 8 n) parts place) refl

-- the value of a step that did not fail
pub bind_ok : {A B E : Type 0} (r : Result A E) (f : A → Result B E) (y : B) → (r >>= f) ≡ Ok y → (x : A) × (r ≡ Ok x) × (f x ≡ Ok y)
bind_ok (Ok x) f y e = (x, refl, e)
bind_ok (Err d) f y e = absurd cc

-- ---- pairs

-- a front in two parts
pub take_parts : {A : Type 0} (n m : ℕ) (xs : List A) → take (n + m) xs ≡ take n xs ++ take m (drop n xs)
take_parts n m xs =
    let front : take n (take (n + m) xs) ≡ take n xs = take-take n (n + m) xs (omega arith) in
    sym (take-append-drop n (take (n + m) xs)) ∙ rw (front, drop-take n m xs) refl

pub pair_took : (old new : Unread) (first second : ℕ) → AreBytes old.bytes → pair_at old ≡ Ok ((first, second), new) → Took (IsPair first second) old new
unfolding pair_at
pair_took old new first second fits e =
    let made : (ℕ × ℕ) × Unread = ((little_number 4 old.bytes, little_number 4 (drop 4 old.bytes)), past 8 old) in
    let g = refused_not (ltb (length old.bytes) 8) (Short old.at) (Ok made) ((first, second), new) e in
    let is : made ≡ ((first, second), new) = ok_is made ((first, second), new) g.1 in
    let long : 8 ≤ length old.bytes = ltb-false _ _ g.0 in
    let one : little_number 4 old.bytes ≡ first = ap (λ (x : (ℕ × ℕ) × Unread). x.0.0) is in
    let two : little_number 4 (drop 4 old.bytes) ≡ second = ap (λ (x : (ℕ × ℕ) × Unread). x.0.1) is in
    let after : past 8 old ≡ new = ap (λ (x : (ℕ × ℕ) × Unread). x.1) is in
    let behind = AreBytes-drop 4 old.bytes fits in
    let low : take 4 old.bytes ≡ little_bytes 4 first = sym (bytes_of_number_4 old.bytes (omega arith) fits) ∙ ap (little_bytes 4) one in
    let high : take 4 (drop 4 old.bytes) ≡ little_bytes 4 second =
    sym (bytes_of_number_4 (drop 4 old.bytes) (omega (arith, length-drop 4 old.bytes)) behind) ∙ ap (little_bytes 4) two in
    let front : take 8 old.bytes ≡ little_bytes 4 first ++ little_bytes 4 second =
    take_parts 4 4 old.bytes ∙ ap (λ (x : List ℕ). x ++ take 4 (drop 4 old.bytes)) low ∙ ap (λ (x : List ℕ). little_bytes 4 first ++ x) high in
    let first_fits : first < 2 ^ 32 = rw (← one) (little_from-lt 0 4 old.bytes fits) in
    let second_fits : second < 2 ^ 32 = rw (← two) (little_from-lt 0 4 (drop 4 old.bytes) behind) in
    let place : new.at ≡ old.at + 8 = rw (← after) refl in
    record {
      item = little_bytes 4 first ++ little_bytes 4 second;
      spelled = record { first_fits = first_fits; second_fits = second_fits; parts = refl };
      parts = parts_are old new 8 (little_bytes 4 first ++ little_bytes 4 second) front after;
      place = place;
    }

pub pair_again : (old new : Unread) (first second : ℕ) → Took (IsPair first second) old new → pair_at old ≡ Ok ((first, second), new)
unfolding pair_at
pair_again old new first second t =
    let item = little_bytes 4 first ++ little_bytes 4 second in
    let parts : old.bytes ≡ item ++ new.bytes = t.parts ∙ ap (λ (b : List ℕ). b ++ new.bytes) t.spelled.parts in
    let place : new.at ≡ old.at + 8 = t.place ∙ ap (λ (b : List ℕ). old.at + length b) t.spelled.parts in
    let split : old.bytes ≡ little_bytes 4 first ++ (little_bytes 4 second ++ new.bytes) = parts ∙ append_assoc (little_bytes 4 first) (little_bytes 4 second) new.bytes in
    let long : ltb (length old.bytes) 8 ≡ false = le-ltb _ _ (omega (arith, ap length parts, length-append item new.bytes)) in
    let one : little_number 4 old.bytes ≡ first = ap (little_number 4) split ∙ little_number-reads_back 4 first (little_bytes 4 second ++ new.bytes) t.spelled.first_fits in
    let rest : drop 4 old.bytes ≡ little_bytes 4 second ++ new.bytes = ap (drop 4) split ∙ drop_at (little_bytes 4 first) (little_bytes 4 second ++ new.bytes) 4 refl in
    let two : little_number 4 (drop 4 old.bytes) ≡ second = ap (little_number 4) rest ∙ little_number-reads_back 4 second new.bytes t.spelled.second_fits in
    rw (long, one, two, past_is old new item parts place) refl
