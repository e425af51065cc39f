-- Bytes that zeros fill up to a whole word are read exactly if the bytes are their encoding.
use Rattle.std.proofs.Common.{◌≡◌, ℕ, zero, suc, ◌+◌, ◌%◌, ◌<◌, ◌≤◌, Bool, true, false, cond, ltb, ◌&&◌, List, [], ◌∷◌, ◌++◌, length, take, drop, replicate, Ok, Err, refl, sym, ap, ◌∙◌, append_assoc, arith}
use Rattle.std.specs.List.{list_all}
use Rattle.std.proofs.lemmas.Bool.{ltb-false, le-ltb, eqb-true}
use Rattle.std.proofs.lemmas.List.{length-append, length-replicate, length-take-le, length-drop, take_at, drop_at}
use Rattle.wire_words.specs.declared.fault.WordFault.TheVariants.{Short, Pad}
use Rattle.wire_words.specs.Items.{gap, zeros_after, raw, is_zero, IsPadded, IsRaw}
use Rattle.wire_words.specs.Reading.{Unread, past, are_zeros, raw_at, Took}
use Rattle.wire_words.proofs.ReadBack.{refused_not, passed, ok_is, firsts, seconds, past_is, parts_are, take_parts}

both_true : (a b : Bool) → (a && b) ≡ true → (a ≡ true) × (b ≡ true)
both_true true b e = (refl, e)
both_true false b e = absurd cc

pub zeros_are : (bytes : List ℕ) → list_all is_zero bytes ≡ true → bytes ≡ replicate (length bytes) 0
zeros_are [] e = refl
zeros_are (b ∷ bytes) e =
    let both = both_true (is_zero b) (list_all is_zero bytes) e in
    ap (λ (x : ℕ). x ∷ bytes) (eqb-true _ _ both.0) ∙ ap (λ (xs : List ℕ). 0 ∷ xs) (zeros_are bytes both.1)

pub all_zeros : (n : ℕ) → list_all is_zero (replicate n 0) ≡ true
all_zeros zero = refl
all_zeros (suc n) = all_zeros n

pub gap_is : (n filling : ℕ) → filling < 8 → (n + filling) % 8 ≡ 0 → filling ≡ gap n
gap_is n filling few whole = omega arith

-- ---- an encoding by the relation and by the function

pub raw_is_padded : (bytes : List ℕ) → IsPadded bytes (raw bytes)
raw_is_padded bytes =
    let all : length (raw bytes) ≡ length bytes + gap (length bytes) = length-append bytes (zeros_after (length bytes)) ∙ ap (λ (n : ℕ). length bytes + n) (length-replicate (gap (length bytes)) 0) in
    record { zeros = gap (length bytes); few = omega arith; parts = refl; whole = omega (arith, all) }

pub padded_is_raw : (bytes padded : List ℕ) → IsPadded bytes padded → padded ≡ raw bytes
padded_is_raw bytes padded p =
    let all : length padded ≡ length bytes + p.zeros = ap length p.parts ∙ length-append bytes (replicate p.zeros 0) ∙ ap (λ (n : ℕ). length bytes + n) (length-replicate p.zeros 0) in
    let whole : (length bytes + p.zeros) % 8 ≡ 0 = ap (λ (n : ℕ). n % 8) (sym all) ∙ p.whole in
    p.parts ∙ ap (λ (n : ℕ). bytes ++ replicate n 0) (gap_is (length bytes) p.zeros p.few whole)

-- ---- reading

-- a reader found this many bytes, which are these, with their zeros
pub record IsFilled (size : ℕ) (old new : Unread) (bytes : List ℕ) : Type 0 where
  pub room : ltb (length old.bytes) (size + gap size) ≡ false
  pub zeros : are_zeros size (gap size) old.bytes ≡ true
  pub value : take size old.bytes ≡ bytes
  pub after : past (size + gap size) old ≡ new

pub filled_took : (size : ℕ) (old new : Unread) (bytes : List ℕ) → IsFilled size old new bytes → (length bytes ≡ size) × Took (IsRaw bytes) old new
filled_took size old new bytes f =
    let long : size + gap size ≤ length old.bytes = ltb-false _ _ f.room in
    let len : length bytes ≡ size = ap length (sym f.value) ∙ length-take-le size old.bytes (omega arith) in
    let many : length (take (gap size) (drop size old.bytes)) ≡ gap size = length-take-le (gap size) (drop size old.bytes) (omega (arith, length-drop size old.bytes)) in
    let zeros : take (gap size) (drop size old.bytes) ≡ replicate (gap (length bytes)) 0 =
    zeros_are (take (gap size) (drop size old.bytes)) f.zeros ∙ ap (λ (n : ℕ). replicate n 0) (many ∙ ap gap (sym len)) in
    let front : take (size + gap size) old.bytes ≡ raw bytes =
    take_parts size (gap size) old.bytes ∙ ap (λ (x : List ℕ). x ++ take (gap size) (drop size old.bytes)) f.value ∙ ap (λ (x : List ℕ). bytes ++ x) zeros in
    let all : length (raw bytes) ≡ size + gap size = ap length (sym front) ∙ length-take-le (size + gap size) old.bytes long in
    let place : new.at ≡ old.at + length (raw bytes) = ap (λ (left : Unread). left.at) (sym f.after) ∙ ap (λ (n : ℕ). old.at + n) (sym all) in
    (len, record { item = raw bytes; spelled = raw_is_padded bytes; parts = parts_are old new (size + gap size) (raw bytes) front f.after; place = place })

pub filled_again : (old new : Unread) (bytes : List ℕ) → Took (IsRaw bytes) old new → IsFilled (length bytes) old new bytes
filled_again old new bytes t =
    let zeros = zeros_after (length bytes) in
    let item : t.item ≡ raw bytes = padded_is_raw bytes t.item t.spelled in
    let parts : old.bytes ≡ raw bytes ++ new.bytes = t.parts ∙ ap (λ (b : List ℕ). b ++ new.bytes) item in
    let place : new.at ≡ old.at + length (raw bytes) = t.place ∙ ap (λ (b : List ℕ). old.at + length b) item in
    let split : old.bytes ≡ bytes ++ (zeros ++ new.bytes) = parts ∙ append_assoc bytes zeros new.bytes in
    let all : length (raw bytes) ≡ length bytes + gap (length bytes) = length-append bytes zeros ∙ ap (λ (n : ℕ). length bytes + n) (length-replicate (gap (length bytes)) 0) in
    let long : length bytes + gap (length bytes) ≤ length old.bytes = omega (arith, all, ap length parts, length-append (raw bytes) new.bytes) in
    let behind : take (gap (length bytes)) (drop (length bytes) old.bytes) ≡ zeros =
    ap (λ (b : List ℕ). take (gap (length bytes)) (drop (length bytes) b)) split ∙ ap (take (gap (length bytes))) (drop_at bytes (zeros ++ new.bytes) (length bytes) refl) ∙ take_at zeros new.bytes (gap (length bytes)) (length-replicate (gap (length bytes)) 0) in
    record {
      room = le-ltb _ _ long;
      zeros = ap (list_all is_zero) behind ∙ all_zeros (gap (length bytes));
      value = ap (take (length bytes)) split ∙ take_at bytes (zeros ++ new.bytes) (length bytes) refl;
      after = ap (λ (n : ℕ). past n old) (sym all) ∙ past_is old new (raw bytes) parts place;
    }

pub raw_took : (size : ℕ) (old new : Unread) (bytes : List ℕ) → raw_at size old ≡ Ok (bytes, new) → (length bytes ≡ size) × Took (IsRaw bytes) old new
unfolding raw_at
raw_took size old new bytes e =
    let made : List ℕ × Unread = (take size old.bytes, past (size + gap size) old) in
    let g = refused_not (ltb (length old.bytes) (size + gap size)) (Short old.at) (cond (are_zeros size (gap size) old.bytes) (Ok made) (Err (Pad old.at))) (bytes, new) e in
    let h = passed (are_zeros size (gap size) old.bytes) (Pad old.at) (Ok made) (bytes, new) g.1 in
    let is : made ≡ (bytes, new) = ok_is made (bytes, new) h.1 in
    filled_took size old new bytes (record { room = g.0; zeros = h.0; value = firsts made (bytes, new) is; after = seconds made (bytes, new) is })

pub raw_again : (old new : Unread) (bytes : List ℕ) → Took (IsRaw bytes) old new → raw_at (length bytes) old ≡ Ok (bytes, new)
unfolding raw_at
raw_again old new bytes t =
    let f = filled_again old new bytes t in
    rw (f.room, f.zeros, f.value, f.after) refl
