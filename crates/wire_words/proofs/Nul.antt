-- A text is read exactly if the bytes are its encoding.
use Rattle.std.proofs.Common.{◌≡◌, ℕ, suc, ◌+◌, ◌<◌, Bool, true, false, not, cond, ltb, ◌||◌, List, [], ◌∷◌, ◌++◌, length, take, drop, get_or, Option, Some, None, Ok, Err, refl, sym, ap, subst, ◌∙◌, append_assoc, arith}
use Rattle.std.specs.Prelude.{IsUtf8}
use Rattle.std.specs.List.{list_any, position, prefix_len}
use Rattle.std.specs.Str.{is_utf8}
use Rattle.std.proofs.lemmas.Bool.{lt-ltb, eqb-true}
use Rattle.std.proofs.lemmas.List.{length-append, length-take-le, get_or-take, take_more, take_at, take-append-drop}
use Rattle.std.proofs.lemmas.List.Quantifiers.{position-Some}
use Rattle.std.proofs.lemmas.Str.{IsUtf8-from_is_utf8, is_utf8-from_IsUtf8}
use Rattle.wire_words.specs.declared.fault.WordFault.TheVariants.{Short, NotUtf8, Pad}
use Rattle.wire_words.specs.Items.{gap, text, is_zero, HasNoNul, IsRaw, IsText}
use Rattle.wire_words.specs.Reading.{Unread, past, are_zeros, text_of, text_to, text_at, Took}
use Rattle.wire_words.proofs.ReadBack.{refused_not, passed, ok_is, firsts, seconds}
use Rattle.wire_words.proofs.Padding.{IsFilled, filled_took, filled_again, raw_is_padded, padded_is_raw}

both_false : (a b : Bool) → (a || b) ≡ false → (a ≡ false) × (b ≡ false)
both_false true b e = absurd cc
both_false false b e = (refl, e)

not_false : (b : Bool) → not b ≡ false → b ≡ true
not_false true e = refl
not_false false e = absurd cc

-- ---- where the first NUL is

nul_at : (t rest : List ℕ) → HasNoNul t → prefix_len (λ b. not (is_zero b)) (t ++ 0 ∷ rest) ≡ length t
nul_at [] rest h = refl
nul_at (b ∷ t) rest h =
    let both = both_false (is_zero b) (list_any is_zero t) h in
    rw (both.0, nul_at t rest both.1) (omega arith)

pub position_of_nul : (t rest : List ℕ) → HasNoNul t → position is_zero (t ++ 0 ∷ rest) ≡ Some (length t)
position_of_nul t rest h =
    let below : ltb (length t) (length (t ++ 0 ∷ rest)) ≡ true = lt-ltb _ _ (omega (arith, length-append t (0 ∷ rest))) in
    rw (nul_at t rest h, below) refl

no_nul : (bytes : List ℕ) → ((k : ℕ) → k < length bytes → is_zero (get_or bytes k 0) ≡ false) → HasNoNul bytes
no_nul [] h = refl
no_nul (b ∷ bytes) h = rw (h 0 (omega arith), no_nul bytes (λ k lt. h (suc k) (omega arith))) refl

-- before the first NUL there is none
record IsNul (bytes : List ℕ) (n : ℕ) : Type 0 where
  pub within : n < length bytes
  pub front : HasNoNul (take n bytes)
  pub through : take (n + 1) bytes ≡ take n bytes ++ 0 ∷ []

nul_found : (bytes : List ℕ) (n : ℕ) → position is_zero bytes ≡ Some n → IsNul bytes n
nul_found bytes n e =
    let p = position-Some is_zero bytes n 0 e in
    let len : length (take n bytes) ≡ n = length-take-le n bytes (omega (arith, p.0)) in
    record {
      within = p.0;
      front = no_nul (take n bytes) (λ k lt. let below : k < n = omega (arith, len) in rw (get_or-take n bytes k 0 below) (p.2 k below));
      through = take_more bytes n 0 p.0 ∙ ap (λ (b : ℕ). take n bytes ++ b ∷ []) (eqb-true _ _ p.1);
    }

-- ---- an encoding by the relation and by the function

pub text_is_spelled : (t : List ℕ) → IsUtf8 t → HasNoNul t → IsText t (text t)
text_is_spelled t utf8 no_nul = record { utf8 = utf8; no_nul = no_nul; padded = raw_is_padded (t ++ 0 ∷ []) }

pub spelled_is_text : (t bytes : List ℕ) → IsText t bytes → bytes ≡ text t
spelled_is_text t bytes s = padded_is_raw (t ++ 0 ∷ []) bytes s.padded

-- ---- reading

text_to_ok : (at : Option ℕ) (old new : Unread) (t : List ℕ) → text_to at old ≡ Ok (t, new) → (n : ℕ) × (at ≡ Some n) × (text_of n old ≡ Ok (t, new))
text_to_ok None old new t e = absurd cc
text_to_ok (Some n) old new t e = (n, refl, e)

pub text_took : (old new : Unread) (t : List ℕ) → text_at old ≡ Ok (t, new) → Took (IsText t) old new
unfolding text_at text_of
text_took old new t e =
    let a = text_to_ok (position is_zero old.bytes) old new t e in
    let n = a.0 in
    let made : List ℕ × Unread = (take n old.bytes, past (n + 1 + gap (n + 1)) old) in
    let zeros = are_zeros (n + 1) (gap (n + 1)) old.bytes in
    let g = refused_not (ltb (length old.bytes) (n + 1 + gap (n + 1))) (Short old.at) (cond (not (is_utf8 (take n old.bytes))) (Err (NotUtf8 old.at)) (cond zeros (Ok made) (Err (Pad old.at)))) (t, new) a.2 in
    let h = refused_not (not (is_utf8 (take n old.bytes))) (NotUtf8 old.at) (cond zeros (Ok made) (Err (Pad old.at))) (t, new) g.1 in
    let k = passed zeros (Pad old.at) (Ok made) (t, new) h.1 in
    let is : made ≡ (t, new) = ok_is made (t, new) k.1 in
    let value : take n old.bytes ≡ t = firsts made (t, new) is in
    let nul = nul_found old.bytes n a.1 in
    let through : take (n + 1) old.bytes ≡ t ++ 0 ∷ [] = nul.through ∙ ap (λ (x : List ℕ). x ++ 0 ∷ []) value in
    let f = filled_took (n + 1) old new (t ++ 0 ∷ []) (record { room = g.0; zeros = k.0; value = through; after = seconds made (t, new) is }) in
    let utf8 : IsUtf8 t = IsUtf8-from_is_utf8 t (ap is_utf8 (sym value) ∙ not_false _ h.0) in
    let front : HasNoNul t = rw (← value) nul.front in
    let r = f.1 in
    record { item = r.item; spelled = record { utf8 = utf8; no_nul = front; padded = r.spelled }; parts = r.parts; place = r.place }

pub text_again : (old new : Unread) (t : List ℕ) → Took (IsText t) old new → text_at old ≡ Ok (t, new)
unfolding text_at text_of
text_again old new t r =
    let whole : Took (IsRaw (t ++ 0 ∷ [])) old new = record { item = r.item; spelled = r.spelled.padded; parts = r.parts; place = r.place } in
    let size : length (t ++ 0 ∷ []) ≡ length t + 1 = length-append t (0 ∷ []) in
    let f : IsFilled (length t + 1) old new (t ++ 0 ∷ []) = subst (λ (n : ℕ). IsFilled n old new (t ++ 0 ∷ [])) size (filled_again old new (t ++ 0 ∷ []) whole) in
    let parts : old.bytes ≡ t ++ 0 ∷ drop (length t + 1) old.bytes =
    sym (take-append-drop (length t + 1) old.bytes) ∙ ap (λ (x : List ℕ). x ++ drop (length t + 1) old.bytes) f.value ∙ append_assoc t (0 ∷ []) (drop (length t + 1) old.bytes) in
    let found : position is_zero old.bytes ≡ Some (length t) = ap (position is_zero) parts ∙ position_of_nul t (drop (length t + 1) old.bytes) r.spelled.no_nul in
    let value : take (length t) old.bytes ≡ t = ap (take (length t)) parts ∙ take_at t (0 ∷ drop (length t + 1) old.bytes) (length t) refl in
    let utf8 : is_utf8 t ≡ true = is_utf8-from_IsUtf8 t r.spelled.utf8 in
    rw (found, f.room, value, utf8, f.zeros, f.after) refl
