-- Which answers an engine told that keeps them.
use Rattle.std.proofs.Common.{◌≡◌, true, false, List, [], ◌∷◌, ◌++◌, refl, sym, ap, ◌∙◌, subst, append-nil, append_assoc}
use Rattle.std.specs.Prelude.{Option, Some, None}
use Rattle.sql_engine.specs.Meanings.{Told, Tells, untold, added, lost}
use Rattle.session_spec.specs.Engines.{Answer}
use Rattle.session_statements.specs.Running.{TellsAll}
use Rattle.script_safety.specs.Slots.{has_told}

-- one that has lost none at the end had lost none before, and has these after the others
Grew : List Answer → Option Told → Option Told → Type 0
Grew xs (Some t) (Some u) = u.cut ≡ false → (t.cut ≡ false) × (u.answers ≡ t.answers ++ xs)
Grew xs None now = Unit {0}
Grew xs before None = Unit {0}

no_cut : true ≡ false → ⊥
no_cut e = cc

one_tells : (a : Answer) (x y : Option Told) → Tells a x y → Grew (a ∷ []) x y
unfolding Grew
one_tells a x y untold = tt
one_tells a x y (added answers) = λ e. (refl, refl)
one_tells a x y (lost answers cut is) = λ e. absurd (no_cut e)

some_none : (t : Told) → Some t ≡ None → ⊥
some_none t e = cc

grew_on : (a : Answer) (rest : List Answer) (x y z : Option Told) → Grew (a ∷ []) x y → Grew rest y z → (y ≡ None → (x ≡ None)) → (z ≡ None → (y ≡ None)) → Grew (a ∷ rest) x z
unfolding Grew
grew_on a rest None y z one more p q = tt
grew_on a rest (Some t) y None one more p q = tt
grew_on a rest (Some t) None (Some u) one more p q = absurd (some_none t (p refl))
grew_on a rest (Some t) (Some v) (Some u) one more p q = λ e.
    let h = more e in
    let g = one h.0 in
    (g.0, h.1 ∙ ap (λ l. l ++ rest) g.1 ∙ append_assoc t.answers (a ∷ []) rest)

none_stays : (a : Answer) (x y : Option Told) → Tells a x y → y ≡ None → x ≡ None
none_stays a x y untold = λ e. refl
none_stays a x y (added answers) = λ e. absurd (some_none (record { answers = answers ++ a ∷ []; cut = false }) e)
none_stays a x y (lost answers cut is) = λ e. absurd (some_none (record { answers = answers; cut = true }) e)

none_all : (xs : List Answer) (x y : Option Told) → TellsAll xs x y → y ≡ None → x ≡ None
unfolding TellsAll
none_all [] x y h e = h ∙ e
none_all (a ∷ xs) x y h e = none_stays a x h.0 h.1 (none_all xs h.0 y h.2 e)

none_more : (x : Option Told) → Grew [] x x
unfolding Grew
none_more None = tt
none_more (Some t) = λ e. (e, sym (append-nil t.answers))

all_tell : (xs : List Answer) (x y : Option Told) → TellsAll xs x y → Grew xs x y
unfolding TellsAll
all_tell [] x y h = subst (Grew [] x) h (none_more x)
all_tell (a ∷ xs) x y h = grew_on a xs x h.0 y (one_tells a x h.0 h.1) (all_tell xs h.0 y h.2) (none_stays a x h.0 h.1) (none_all xs h.0 y h.2)

rest_of : List Answer → List Answer
rest_of [] = []
rest_of (a ∷ as_) = as_

cancel : (xs ys zs : List Answer) → xs ++ ys ≡ xs ++ zs → ys ≡ zs
unfolding rest_of
cancel [] ys zs e = e
cancel (a ∷ xs) ys zs e = cancel xs ys zs (ap rest_of e)

-- these are the answers that it told
pub told_are : (before xs ys : List Answer) → TellsAll xs (has_told before) (has_told (before ++ ys)) → xs ≡ ys
unfolding Grew
told_are before xs ys h =
    let g : Grew xs (has_told before) (has_told (before ++ ys)) = all_tell xs (has_told before) (has_told (before ++ ys)) h in
    sym (cancel before ys xs (g refl).1)
