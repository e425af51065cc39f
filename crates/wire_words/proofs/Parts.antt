-- Parts that stand one after the other, and bytes that are filled up, are read exactly if the bytes are their encoding.
use Rattle.std.proofs.Common.{◌≡◌, ℕ, ◌+◌, ◌%◌, ◌≤◌, false, cond, ltb, List, ◌++◌, length, take, drop, Ok, Err, refl, sym, ap, subst, ◌∙◌, append_assoc, arith}
use Rattle.std.specs.List.{list_all}
use Rattle.std.proofs.lemmas.Bool.{ltb-false, le-ltb}
use Rattle.std.proofs.lemmas.List.{length-append, length-take-le, length-drop, take_at, drop_at}
use Rattle.wire_words.specs.declared.fault.WordFault.TheVariants.{Short, Pad}
use Rattle.wire_words.specs.declared.value.Dialect.TheVariants as dialects
use Rattle.wire_words.specs.Items.{gap, is_zero, AreBytes, IsWord, IsRaw}
use Rattle.wire_words.specs.Values.{IsRounded, Joined}
use Rattle.wire_words.specs.declared.value.Dialect.{Dialect}
use Rattle.wire_words.specs.Values as values
use Rattle.wire_words.specs.Reading.{Unread, past, word_at, blob_at, filled_at, Took}
use Rattle.wire_words.proofs.Numbers.{AreBytes-drop}
use Rattle.wire_words.proofs.ReadBack.{refused_not, passed, ok_is, bind_ok, firsts, seconds, past_is, parts_are, take_parts, word_took, word_again}
use Rattle.wire_words.proofs.Padding.{gap_is, filled_took, filled_again}

-- ---- one part and then another

pub took_both : {P Q : List ℕ → Type 0} (old mid new : Unread) → Took P old mid → Took Q mid new → Took (Joined P Q) old new
took_both old mid new a b = record {
  item = a.item ++ b.item;
  spelled = record { first = a.item; second = b.item; parts = refl; is_first = a.spelled; is_second = b.spelled };
  parts = a.parts ∙ ap (λ (x : List ℕ). a.item ++ x) b.parts ∙ sym (append_assoc a.item b.item new.bytes);
  place = omega (arith, a.place, b.place, length-append a.item b.item);
}

pub took_parts : {P Q : List ℕ → Type 0} (old new : Unread) → Took (Joined P Q) old new → (mid : Unread) × Took P old mid × Took Q mid new
took_parts old new t =
    let j = t.spelled in
    let mid : Unread = record { at = old.at + length j.first; bytes = j.second ++ new.bytes } in
    let size : length t.item ≡ length j.first + length j.second = ap length j.parts ∙ length-append j.first j.second in (
      mid,
      record { item = j.first; spelled = j.is_first; parts = t.parts ∙ ap (λ (x : List ℕ). x ++ new.bytes) j.parts ∙ append_assoc j.first j.second new.bytes; place = refl },
      record { item = j.second; spelled = j.is_second; parts = refl; place = omega (arith, t.place, size) },
    )

pub bytes_after : {P : List ℕ → Type 0} (old mid : Unread) → AreBytes old.bytes → Took P old mid → AreBytes mid.bytes
bytes_after old mid fits t =
    let behind : drop (length t.item) old.bytes ≡ mid.bytes = ap (drop (length t.item)) t.parts ∙ drop_at t.item mid.bytes (length t.item) refl in
    subst AreBytes behind (AreBytes-drop (length t.item) old.bytes fits)

-- ---- bytes that are filled up

pub exact_took : (at size : ℕ) (old new : Unread) (bytes : List ℕ) → filled_at dialects.Exact at size old ≡ Ok (bytes, new) → (length bytes ≡ size) × Took (IsRaw bytes) old new
exact_took at size old new bytes e =
    let made : List ℕ × Unread = (take size old.bytes, past (size + gap size) old) in
    let zeros = list_all is_zero (take (gap size) (drop size old.bytes)) in
    let g = refused_not (ltb (length old.bytes) (size + gap size)) (Short at) (cond zeros (Ok made) (Err (Pad at))) (bytes, new) e in
    let h = passed zeros (Pad at) (Ok made) (bytes, new) g.1 in
    let is : made ≡ (bytes, new) = ok_is made (bytes, new) h.1 in
    filled_took size old new bytes (record { room = g.0; zeros = h.0; value = firsts made (bytes, new) is; after = seconds made (bytes, new) is })

pub exact_again : (at : ℕ) (old new : Unread) (bytes : List ℕ) → Took (IsRaw bytes) old new → filled_at dialects.Exact at (length bytes) old ≡ Ok (bytes, new)
exact_again at old new bytes t =
    let f = filled_again old new bytes t in
    rw (f.room, f.zeros, f.value, f.after) refl

pub client_took : (at size : ℕ) (old new : Unread) (bytes : List ℕ) → filled_at dialects.Client at size old ≡ Ok (bytes, new) → (length bytes ≡ size) × Took (IsRounded bytes) old new
client_took at size old new bytes e =
    let made : List ℕ × Unread = (take size old.bytes, past (size + gap size) old) in
    let g = refused_not (ltb (length old.bytes) (size + gap size)) (Short at) (Ok made) (bytes, new) e in
    let is : made ≡ (bytes, new) = ok_is made (bytes, new) g.1 in
    let long : size + gap size ≤ length old.bytes = ltb-false _ _ g.0 in
    let value : take size old.bytes ≡ bytes = firsts made (bytes, new) is in
    let after : past (size + gap size) old ≡ new = seconds made (bytes, new) is in
    let len : length bytes ≡ size = ap length (sym value) ∙ length-take-le size old.bytes (omega (arith, long)) in
    let others = take (gap size) (drop size old.bytes) in
    let many : length others ≡ gap size = length-take-le (gap size) (drop size old.bytes) (omega (arith, long, length-drop size old.bytes)) in
    let front : take (size + gap size) old.bytes ≡ bytes ++ others = take_parts size (gap size) old.bytes ∙ ap (λ (x : List ℕ). x ++ others) value in
    let all : length (bytes ++ others) ≡ size + gap size = ap length (sym front) ∙ length-take-le (size + gap size) old.bytes long in
    let place : new.at ≡ old.at + length (bytes ++ others) = ap (λ (left : Unread). left.at) (sym after) ∙ ap (λ (n : ℕ). old.at + n) (sym all) in (
      len,
      record {
        item = bytes ++ others;
        spelled = record { others = others; few = omega (arith, many); parts = refl; whole = omega (arith, all) };
        parts = parts_are old new (size + gap size) (bytes ++ others) front after;
        place = place;
      },
    )

pub client_again : (at : ℕ) (old new : Unread) (bytes : List ℕ) → Took (IsRounded bytes) old new → filled_at dialects.Client at (length bytes) old ≡ Ok (bytes, new)
client_again at old new bytes t =
    let r = t.spelled in
    let size : length t.item ≡ length bytes + length r.others = ap length r.parts ∙ length-append bytes r.others in
    let whole : (length bytes + length r.others) % 8 ≡ 0 = ap (λ (n : ℕ). n % 8) (sym size) ∙ r.whole in
    let fill : length r.others ≡ gap (length bytes) = gap_is (length bytes) (length r.others) r.few whole in
    let all : length t.item ≡ length bytes + gap (length bytes) = size ∙ ap (λ (n : ℕ). length bytes + n) fill in
    let split : old.bytes ≡ bytes ++ (r.others ++ new.bytes) = t.parts ∙ ap (λ (x : List ℕ). x ++ new.bytes) r.parts ∙ append_assoc bytes r.others new.bytes in
    let room : ltb (length old.bytes) (length bytes + gap (length bytes)) ≡ false = le-ltb _ _ (omega (arith, all, ap length t.parts, length-append t.item new.bytes)) in
    let value : take (length bytes) old.bytes ≡ bytes = ap (take (length bytes)) split ∙ take_at bytes (r.others ++ new.bytes) (length bytes) refl in
    let after : past (length bytes + gap (length bytes)) old ≡ new = ap (λ (n : ℕ). past n old) (sym all) ∙ past_is old new t.item t.parts t.place in
    rw (room, value, after) refl

-- of either kind
pub fill_took : (dialect : Dialect) (at size : ℕ) (old new : Unread) (bytes : List ℕ) → filled_at dialect at size old ≡ Ok (bytes, new) → (length bytes ≡ size) × Took (values.IsFilled dialect bytes) old new
fill_took dialects.Exact = exact_took
fill_took dialects.Client = client_took

pub fill_again : (dialect : Dialect) (at : ℕ) (old new : Unread) (bytes : List ℕ) → Took (values.IsFilled dialect bytes) old new → filled_at dialect at (length bytes) old ≡ Ok (bytes, new)
fill_again dialects.Exact = exact_again
fill_again dialects.Client = client_again

-- ---- blobs

pub blob_took : (dialect : Dialect) (old new : Unread) (bytes : List ℕ) → AreBytes old.bytes → blob_at dialect old ≡ Ok (bytes, new) → Took (values.IsBlob dialect bytes) old new
unfolding blob_at
blob_took dialect old new bytes fits e =
    let a = bind_ok (word_at old) (λ size. filled_at dialect old.at size.0 size.1) (bytes, new) e in
    let first = word_took old a.0.1 a.0.0 fits a.1 in
    let second = fill_took dialect old.at a.0.0 a.0.1 new bytes a.2 in
    took_both old a.0.1 new (subst (λ (n : ℕ). Took (IsWord n) old a.0.1) (sym second.0) first) second.1

pub blob_again : (dialect : Dialect) (old new : Unread) (bytes : List ℕ) → Took (values.IsBlob dialect bytes) old new → blob_at dialect old ≡ Ok (bytes, new)
unfolding blob_at
blob_again dialect old new bytes t =
    let p = took_parts old new t in
    rw (word_again old p.0 (length bytes) p.1) (fill_again dialect old.at p.0 new bytes p.2)
