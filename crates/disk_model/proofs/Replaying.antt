-- Calls that are covered, and calls that are done again.
use Rattle.std.proofs.Common.{◌≡◌, ℕ, zero, suc, ◌+◌, ◌<◌, ◌≤◌, Bool, true, false, cond, List, [], ◌∷◌, ◌++◌, length, take, drop, set, get_or, remove, refl, sym, ap, ◌∙◌, arith, Result, OnOk}
use Rattle.std.specs.Str.{bytes_eq}
use Rattle.disk_model.specs.Disk.{Found}
use Rattle.disk_model.specs.Memory.{done_to, half_of, done_in_turn, effects_on, at_name, each_left, first_half, kept, whole_calls, keeps_half}
use Rattle.disk_model.specs.Trait.{Text, Reads}
use Rattle.disk_model.specs.Folder.{Tables, tables_of, base_changed, replayed}
use Rattle.disk_model.specs.declared.open_calls.UnsyncedEffect.{UnsyncedEffect}
use Rattle.disk_model.specs.declared.open_calls.UnsyncedCall.{UnsyncedCall}
use Rattle.disk_model.specs.MemFiles.{MemFile}
use Rattle.std.proofs.lemmas.List.{take_more, append-nil}
use Rattle.std.proofs.lemmas.Result.{on_ok_weaker}
use Rattle.std.specs.declared.alloc.AllocError.{AllocError}
use Rattle.disk_model.proofs.Effects.{on_both}

in_turn_more : (cs ds : List UnsyncedEffect) (f : Found) → done_in_turn (cs ++ ds) f ≡ done_in_turn ds (done_in_turn cs f)
in_turn_more [] ds f = refl
in_turn_more (c ∷ cs) ds f = in_turn_more cs ds (done_to c f)

-- one more call is done again
pub replayed_more : (us : List UnsyncedCall) (u : UnsyncedCall) (t : Tables) → replayed (us ++ u ∷ []) t ≡ base_changed u.name (done_to u.effect) (replayed us t)
replayed_more us u t = λ i. record { read = t.read; base = λ n. base n i }
  where
    step : (b : Bool) (f : Found) → done_in_turn (cond b (u.effect ∷ []) []) f ≡ cond b (done_to u.effect f) f
    step true f = refl
    step false f = refl

    base : (n : Text) → done_in_turn (effects_on n (us ++ u ∷ [])) (t.base n) ≡ at_name u.name (done_to u.effect) (λ m. done_in_turn (effects_on m us) (t.base m)) n
    base n =
        ap (λ (l : List UnsyncedEffect). done_in_turn l (t.base n)) (on_both n us (u ∷ []))
        ∙ in_turn_more (effects_on n us) (effects_on n (u ∷ [])) (t.base n)
        ∙ step (bytes_eq u.name n) (done_in_turn (effects_on n us) (t.base n))

-- the next call of a list is done again
pub replayed_next : (calls : List UnsyncedCall) (i : ℕ) (x : UnsyncedCall) (name : Text) (f0 f1 f2 : List MemFile) → tables_of f1 ≡ replayed (take i calls) (tables_of f0) → i < length calls → x ≡ get_or calls i x → name ≡ x.name → tables_of f2 ≡ base_changed name (done_to x.effect) (tables_of f1) → tables_of f2 ≡ replayed (take (i + 1) calls) (tables_of f0)
replayed_next calls i x name f0 f1 f2 so lt is named next =
    next ∙ (λ j. base_changed (named j) (done_to x.effect) (so j)) ∙ sym (replayed_more (take i calls) x (tables_of f0)) ∙ ap (λ (l : List UnsyncedCall). replayed l (tables_of f0)) (sym (take_more calls i x lt ∙ ap (λ (y : UnsyncedCall). take i calls ++ y ∷ []) (sym is)))

-- calls of two lists in a row
replayed_both : (us vs : List UnsyncedCall) (t : Tables) → replayed (us ++ vs) t ≡ replayed vs (replayed us t)
replayed_both us vs t = λ i. record { read = t.read; base = λ n. (ap (λ (l : List UnsyncedEffect). done_in_turn l (t.base n)) (on_both n us vs) ∙ in_turn_more (effects_on n us) (effects_on n vs) (t.base n)) i }

-- the calls that a pick keeps, with or without the half of the next one
pub picked_half : (calls : List UnsyncedCall) (pick n w : ℕ) (f0 f1 f2 : List MemFile) → n ≡ length calls → w ≡ whole_calls pick n → keeps_half pick n ≡ true → tables_of f1 ≡ replayed (take w calls) (tables_of f0) → tables_of f2 ≡ replayed (first_half (drop w calls)) (tables_of f1) → tables_of f2 ≡ replayed (kept pick calls) (tables_of f0)
picked_half calls pick n w f0 f1 f2 len whole half first second =
    let w_is : w ≡ whole_calls pick (length calls) = whole ∙ ap (whole_calls pick) len in
    let h_is : keeps_half pick (length calls) ≡ true = ap (keeps_half pick) (sym len) ∙ half in
    second ∙ ap (replayed (first_half (drop w calls))) first ∙ sym (replayed_both (take w calls) (first_half (drop w calls)) (tables_of f0))
    ∙ (λ i. replayed (take (w_is i) calls ++ cond (sym h_is i) (first_half (drop (w_is i) calls)) []) (tables_of f0))

pub picked_whole : (calls : List UnsyncedCall) (pick n w : ℕ) (f0 f1 : List MemFile) → n ≡ length calls → w ≡ whole_calls pick n → keeps_half pick n ≡ false → tables_of f1 ≡ replayed (take w calls) (tables_of f0) → tables_of f1 ≡ replayed (kept pick calls) (tables_of f0)
picked_whole calls pick n w f0 f1 len whole half first =
    let w_is : w ≡ whole_calls pick (length calls) = whole ∙ ap (whole_calls pick) len in
    let h_is : keeps_half pick (length calls) ≡ false = ap (keeps_half pick) (sym len) ∙ half in
    first ∙ sym (ap (λ (l : List UnsyncedCall). replayed l (tables_of f0)) (append-nil (take w calls)))
    ∙ (λ i. replayed (take (w_is i) calls ++ cond (sym h_is i) (first_half (drop (w_is i) calls)) []) (tables_of f0))

-- half of the first call of a list
pub half_replayed : (calls : List UnsyncedCall) (u : UnsyncedCall) (us : List UnsyncedCall) (name : Text) (f0 f1 : List MemFile) (r : Result Unit AllocError) → calls ≡ u ∷ us → name ≡ u.name → OnOk r (tables_of f1 ≡ base_changed name (done_to (half_of u.effect)) (tables_of f0))
    → OnOk r (tables_of f1 ≡ replayed (first_half calls) (tables_of f0))
half_replayed calls u us name f0 f1 r is named half =
    on_ok_weaker r
    (λ e. e ∙ (λ i. base_changed (named i) (done_to (half_of u.effect)) (tables_of f0)) ∙ sym (replayed_more [] (record { name = u.name; effect = half_of u.effect }) (tables_of f0)) ∙ ap (λ (l : List UnsyncedCall). replayed (first_half l) (tables_of f0)) (sym is))
    half

pub no_half : (calls : List UnsyncedCall) (f : List MemFile) → calls ≡ [] → tables_of f ≡ replayed (first_half calls) (tables_of f)
no_half calls f is = ap (λ (l : List UnsyncedCall). replayed (first_half l) (tables_of f)) (sym is)

-- a call of a list is left as it is or otherwise
pub left_kept : (left : UnsyncedCall → List UnsyncedCall) (all : List UnsyncedCall) (us : List UnsyncedCall) (i : ℕ) (x y : UnsyncedCall) → i < length us → x ≡ get_or us i x → left x ≡ y ∷ [] → all ≡ take i us ++ each_left left (drop i us)
    → all ≡ take (i + 1) (set us i y) ++ each_left left (drop (i + 1) (set us i y))
left_kept left all us i x y lt is gone so = so ∙ step us i lt is
  where
    step : (us : List UnsyncedCall) (i : ℕ) → i < length us → x ≡ get_or us i x → take i us ++ each_left left (drop i us) ≡ take (i + 1) (set us i y) ++ each_left left (drop (i + 1) (set us i y))
    step [] i lt is = absurd (omega arith)
    step (u ∷ us) zero lt is = (λ i. left (sym is i) ++ each_left left us) ∙ (λ i. gone i ++ each_left left us)
    step (u ∷ us) (suc i) lt is = let z = step us i (omega arith) is in shift u us i z
      where
        shift : (u : UnsyncedCall) (us : List UnsyncedCall) (i : ℕ) → take i us ++ each_left left (drop i us) ≡ take (i + 1) (set us i y) ++ each_left left (drop (i + 1) (set us i y)) → u ∷ (take i us ++ each_left left (drop i us)) ≡ take (suc i + 1) (u ∷ set us i y) ++ each_left left (drop (suc i + 1) (u ∷ set us i y))
        shift u us i e = ap (λ (l : List UnsyncedCall). u ∷ l) e ∙ ap (λ (k : ℕ). take k (u ∷ set us i y) ++ each_left left (drop k (u ∷ set us i y))) (let q : suc (i + 1) ≡ suc i + 1 = omega arith in q)

-- a call of a list goes
pub left_gone : (left : UnsyncedCall → List UnsyncedCall) (all : List UnsyncedCall) (us : List UnsyncedCall) (i : ℕ) (x y : UnsyncedCall) → i < length us → x ≡ get_or us i x → left x ≡ [] → all ≡ take i us ++ each_left left (drop i us)
    → all ≡ take i (remove (set us i y) i) ++ each_left left (drop i (remove (set us i y) i))
left_gone left all us i x y lt is gone so = so ∙ step us i lt is
  where
    step : (us : List UnsyncedCall) (i : ℕ) → i < length us → x ≡ get_or us i x → take i us ++ each_left left (drop i us) ≡ take i (remove (set us i y) i) ++ each_left left (drop i (remove (set us i y) i))
    step [] i lt is = absurd (omega arith)
    step (u ∷ us) zero lt is = (λ i. left (sym is i) ++ each_left left us) ∙ (λ i. gone i ++ each_left left us)
    step (u ∷ us) (suc i) lt is = ap (λ (l : List UnsyncedCall). u ∷ l) (step us i (omega arith) is)

-- a read from the end on or past it
pub read_past : (bytes : List ℕ) (at : ℕ) (into : List ℕ) → length bytes ≤ at → Reads bytes at into into 0
read_past bytes at into h = record { count = omega (arith, h); buffer = refl }
