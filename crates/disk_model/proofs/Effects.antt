-- The effects on one file, among the calls that no sync covers.
use Rattle.std.proofs.Common.{◌≡◌, inl, inr, ℕ, zero, suc, Bool, true, false, cond, List, [], ◌∷◌, ◌++◌, length, take, drop, refl, sym, ap, ◌∙◌}
use Rattle.std.specs.Str.{bytes_eq}
use Rattle.std.proofs.lemmas.Bool.{cases_Bool}
use Rattle.std.proofs.lemmas.Slice.Eq.{bytes_eq-Decides}
use Rattle.disk_model.specs.Disk.{Found, Held, Files}
use Rattle.disk_model.specs.Trait.{Text}
use Rattle.disk_model.specs.Memory.{done_to, half_of, done_in_turn, effects_on, first_half, kept, whole_calls, keeps_half, after_file_sync, after_names_sync, all_on, left_by_file_sync, left_by_names_sync, each_left}
use Rattle.disk_model.specs.Holds.{Fits, Allows}
use Rattle.disk_model.specs.declared.open_calls.UnsyncedEffect.{UnsyncedEffect}
use Rattle.disk_model.specs.declared.open_calls.UnsyncedCall.{UnsyncedCall}
use Rattle.disk_model.proofs.Fitting.{allows_first}
use Rattle.disk_model.proofs.Covered.{all_left}
use Rattle.disk_model.proofs.Names.{Apart, same, apart}

pub eq_here : (n : Text) → bytes_eq n n ≡ true
eq_here n = (bytes_eq-Decides n n).1 refl

pub eq_else : (m n : Text) → (m ≡ n → ⊥) → bytes_eq m n ≡ false
eq_else m n h = elim (cases_Bool (bytes_eq m n)) [ inl t ↦ absurd (h ((bytes_eq-Decides m n).0 t)) | inr t ↦ t ]

-- texts are the same or not
pub tell : (m n : Text) → Apart m n
tell m n = elim (cases_Bool (bytes_eq m n)) [
  | inl t ↦ same ((bytes_eq-Decides m n).0 t)
  | inr t ↦ apart (λ e. let z : true ≡ false = sym ((bytes_eq-Decides m n).1 e) ∙ t in absurd cc)
]

pub on_both : (n : Text) (us vs : List UnsyncedCall) → effects_on n (us ++ vs) ≡ effects_on n us ++ effects_on n vs
on_both n [] vs = refl
on_both n (u ∷ us) vs = step (bytes_eq u.name n) (on_both n us vs)
  where
    step : (b : Bool) → effects_on n (us ++ vs) ≡ effects_on n us ++ effects_on n vs → cond b (u.effect ∷ effects_on n (us ++ vs)) (effects_on n (us ++ vs)) ≡ cond b (u.effect ∷ effects_on n us) (effects_on n us) ++ effects_on n vs
    step true e = ap (λ (l : List UnsyncedEffect). u.effect ∷ l) e
    step false e = e

-- one more call on this file, or on another one
pub on_one : (n : Text) (us : List UnsyncedCall) (c : UnsyncedEffect) → effects_on n (us ++ record { name = n; effect = c } ∷ []) ≡ effects_on n us ++ c ∷ []
on_one n us c = on_both n us _ ∙ ap (λ (b : Bool). effects_on n us ++ cond b (c ∷ []) []) (eq_here n)

pub on_other : (n m : Text) (us : List UnsyncedCall) (c : UnsyncedEffect) → (n ≡ m → ⊥) → effects_on m (us ++ record { name = n; effect = c } ∷ []) ≡ effects_on m us
on_other n m us c h = on_both m us _ ∙ ap (λ (b : Bool). effects_on m us ++ cond b (c ∷ []) []) (eq_else n m h) ∙ ends (effects_on m us)
  where
    ends : (l : List UnsyncedEffect) → l ++ [] ≡ l
    ends [] = refl
    ends (x ∷ l) = ap (λ (k : List UnsyncedEffect). x ∷ k) (ends l)

-- effects that are all on one file
pub all_here : (n : Text) (cs : List UnsyncedEffect) → effects_on n (all_on n cs) ≡ cs
all_here n [] = refl
all_here n (c ∷ cs) = ap (λ (b : Bool). cond b (c ∷ effects_on n (all_on n cs)) (effects_on n (all_on n cs))) (eq_here n) ∙ ap (λ (l : List UnsyncedEffect). c ∷ l) (all_here n cs)

pub all_elsewhere : (m n : Text) (cs : List UnsyncedEffect) → (m ≡ n → ⊥) → effects_on n (all_on m cs) ≡ []
all_elsewhere m n [] h = refl
all_elsewhere m n (c ∷ cs) h = ap (λ (b : Bool). cond b (c ∷ effects_on n (all_on m cs)) (effects_on n (all_on m cs))) (eq_else m n h) ∙ all_elsewhere m n cs h

module _ (left : UnsyncedCall → List UnsyncedCall) (n : Text) (leave : UnsyncedEffect → List UnsyncedEffect)
    (here : (u : UnsyncedCall) → u.name ≡ n → effects_on n (left u) ≡ leave u.effect)
    (else : (u : UnsyncedCall) → (u.name ≡ n → ⊥) → effects_on n (left u) ≡ []) where
  -- what is left of the effects on a file
  pub on_left : (us : List UnsyncedCall) → effects_on n (each_left left us) ≡ all_left leave (effects_on n us)
  on_left [] = refl
  on_left (u ∷ us) = on_both n (left u) (each_left left us) ∙ elim (tell u.name n) [
    | same e ↦
        (λ i. here u e i ++ on_left us i)
        ∙ ap (λ (b : Bool). all_left leave (cond b (u.effect ∷ effects_on n us) (effects_on n us))) (sym (ap (λ (m : Text). bytes_eq m n) e ∙ eq_here n))
    | apart h ↦
        (λ i. else u h i ++ on_left us i)
        ∙ ap (λ (b : Bool). all_left leave (cond b (u.effect ∷ effects_on n us) (effects_on n us))) (sym (eq_else u.name n h))
  ]

-- a sync of a file, for that file
pub left_here : (n : Text) (us : List UnsyncedCall) → effects_on n (each_left (left_by_file_sync n) us) ≡ all_left after_file_sync (effects_on n us)
left_here n us = on_left (left_by_file_sync n) n after_file_sync here else us
  where
    here : (u : UnsyncedCall) → u.name ≡ n → effects_on n (left_by_file_sync n u) ≡ after_file_sync u.effect
    here u e =
        ap (λ (b : Bool). effects_on n (cond b (all_on u.name (after_file_sync u.effect)) (u ∷ []))) (ap (λ (m : Text). bytes_eq m n) e ∙ eq_here n)
        ∙ ap (λ (m : Text). effects_on n (all_on m (after_file_sync u.effect))) e ∙ all_here n (after_file_sync u.effect)

    else : (u : UnsyncedCall) → (u.name ≡ n → ⊥) → effects_on n (left_by_file_sync n u) ≡ []
    else u h =
        ap (λ (b : Bool). effects_on n (cond b (all_on u.name (after_file_sync u.effect)) (u ∷ []))) (eq_else u.name n h)
        ∙ ap (λ (b : Bool). cond b (u.effect ∷ []) []) (eq_else u.name n h)

-- and for the others
pub left_else : (n m : Text) (us : List UnsyncedCall) → (m ≡ n → ⊥) → effects_on m (each_left (left_by_file_sync n) us) ≡ effects_on m us
left_else n m [] h = refl
left_else n m (u ∷ us) h = on_both m (left_by_file_sync n u) (each_left (left_by_file_sync n) us) ∙ elim (tell u.name n) [
  | same e ↦
      let other : u.name ≡ m → ⊥ = λ q. h (sym q ∙ e) in
      let none : effects_on m (left_by_file_sync n u) ≡ [] =
      ap (λ (b : Bool). effects_on m (cond b (all_on u.name (after_file_sync u.effect)) (u ∷ []))) (ap (λ (k : Text). bytes_eq k n) e ∙ eq_here n) ∙ all_elsewhere u.name m (after_file_sync u.effect) other in
      (λ i. none i ++ left_else n m us h i) ∙ ap (λ (b : Bool). cond b (u.effect ∷ effects_on m us) (effects_on m us)) (sym (eq_else u.name m other))
  | apart d ↦
      let one : effects_on m (left_by_file_sync n u) ≡ effects_on m (u ∷ []) =
      ap (λ (b : Bool). effects_on m (cond b (all_on u.name (after_file_sync u.effect)) (u ∷ []))) (eq_else u.name n d) in
      (λ i. one i ++ left_else n m us h i) ∙ sym (on_both m (u ∷ []) us)
]

-- a sync of the names
pub left_named : (read : Files Text) (n : Text) (us : List UnsyncedCall) → effects_on n (each_left (left_by_names_sync read) us) ≡ all_left (after_names_sync (read n).there) (effects_on n us)
left_named read n us = on_left (left_by_names_sync read) n (after_names_sync (read n).there) here else us
  where
    here : (u : UnsyncedCall) → u.name ≡ n → effects_on n (left_by_names_sync read u) ≡ after_names_sync (read n).there u.effect
    here u e = ap (λ (m : Text). effects_on n (all_on m (after_names_sync (read m).there u.effect))) e ∙ all_here n (after_names_sync (read n).there u.effect)

    else : (u : UnsyncedCall) → (u.name ≡ n → ⊥) → effects_on n (left_by_names_sync read u) ≡ []
    else u h = all_elsewhere u.name n (after_names_sync (read u.name).there u.effect) h

-- a front of the calls, with or without half of the next one
abbrev front : ℕ → Bool → List UnsyncedCall → List UnsyncedCall
front k b us = take k us ++ cond b (first_half (drop k us)) []

-- Whatever front of the calls a crash keeps, with or without half of the next one, each file fits.
front_fits : (h : Held) (n : Text) (us : List UnsyncedCall) (k : ℕ) (b : Bool) (base : Found) → Allows h base (effects_on n us) → Fits h (done_in_turn (effects_on n (take k us ++ cond b (first_half (drop k us)) [])) base)
front_fits h n [] zero true base a = a
front_fits h n [] zero false base a = a
front_fits h n [] (suc k) true base a = a
front_fits h n [] (suc k) false base a = a
front_fits h n (u ∷ us) zero false base a = allows_first h base (effects_on n (u ∷ us)) a
front_fits h n (u ∷ us) zero true base a = step (bytes_eq u.name n) a
  where
    step : (q : Bool) → Allows h base (cond q (u.effect ∷ effects_on n us) (effects_on n us)) → Fits h (done_in_turn (cond q (half_of u.effect ∷ []) []) base)
    step true x = x.1
    step false x = allows_first h base (effects_on n us) x
front_fits h n (u ∷ us) (suc k) b base a = step (bytes_eq u.name n) a (λ f x. front_fits h n us k b f x)
  where
    step : (q : Bool) → Allows h base (cond q (u.effect ∷ effects_on n us) (effects_on n us)) → ((f : Found) → Allows h f (effects_on n us) → Fits h (done_in_turn (effects_on n (front k b us)) f))
        → Fits h (done_in_turn (cond q (u.effect ∷ effects_on n (front k b us)) (effects_on n (front k b us))) base)
    step true x later = later (done_to u.effect base) x.2
    step false x later = later base x

pub pick_fits : (h : Held) (n : Text) (us : List UnsyncedCall) (pick : ℕ) (base : Found) → Allows h base (effects_on n us) → Fits h (done_in_turn (effects_on n (kept pick us)) base)
pick_fits h n us pick base a = front_fits h n us (whole_calls pick (length us)) (keeps_half pick (length us)) base a
