-- The first item of a list that passes a test.
use Rattle.std.proofs.Common.{◌≡◌, ℕ, ◌+◌, ◌<◌, ◌≤◌, Bool, true, false, cond, List, [], ◌∷◌, ◌++◌, length, get_or, take, drop, set, Some, None, refl, sym, ap, ◌∙◌, append_assoc, add-one}
use Rattle.std.specs.List.{find}
use Rattle.std.proofs.lemmas.List.{drop_more, drop_all, take_more, set_split, get_or_read}
use Rattle.database_state.specs.ByName.{change_first, FirstAt}

-- none of the first items passes the test
pub record NoneBefore {X : Type 0} (test : X → Bool) (xs : List X) (i : ℕ) : Type 0 where
  pub finding : find test xs ≡ find test (drop i xs)
  pub changing : (f : X → X) → change_first test f xs ≡ take i xs ++ change_first test f (drop i xs)

pub none_yet : {X : Type 0} (test : X → Bool) (xs : List X) → NoneBefore test xs 0
none_yet test xs = record { finding = refl; changing = λ f. refl }

module _ {X : Type 0} (test : X → Bool) (xs : List X) (i : ℕ) (x : X) (lt : i < length xs) (is : x ≡ get_or xs i x) (before : NoneBefore test xs i) where
  rest : drop i xs ≡ x ∷ drop (i + 1) xs
  rest = drop_more xs i x lt ∙ ap (λ (d : X). d ∷ drop (i + 1) xs) (sym is)

  pub first_here : test x ≡ true → FirstAt test xs i
  unfolding change_first
  first_here passes = record {
    within = lt;
    found = λ y.
        before.finding ∙ ap (find test) rest ∙ ap (λ (b : Bool). cond b (Some x) (find test (drop (i + 1) xs))) passes ∙ ap (λ (z : X). Some z) (get_or_read xs i x lt is y);
    changed = λ f y.
        before.changing f ∙ ap (λ (l : List X). take i xs ++ change_first test f l) rest
        ∙ ap (λ (b : Bool). take i xs ++ cond b (f x ∷ drop (i + 1) xs) (x ∷ change_first test f (drop (i + 1) xs))) passes
        ∙ ap (λ (z : X). take i xs ++ f z ∷ drop (i + 1) xs) (get_or_read xs i x lt is y)
        ∙ sym (set_split xs i (f (get_or xs i y)) lt ∙ rw (← add-one) refl);
  }

  pub not_here : test x ≡ false → NoneBefore test xs (i + 1)
  unfolding change_first
  not_here fails = record {
    finding = before.finding ∙ ap (find test) rest ∙ ap (λ (b : Bool). cond b (Some x) (find test (drop (i + 1) xs))) fails;
    changing = λ f.
        let front : take (i + 1) xs ≡ take i xs ++ x ∷ [] = take_more xs i x lt ∙ ap (λ (d : X). take i xs ++ d ∷ []) (sym is) in
        before.changing f ∙ ap (λ (l : List X). take i xs ++ change_first test f l) rest
        ∙ ap (λ (b : Bool). take i xs ++ cond b (f x ∷ drop (i + 1) xs) (x ∷ change_first test f (drop (i + 1) xs))) fails
        ∙ sym (append_assoc (take i xs) (x ∷ []) (change_first test f (drop (i + 1) xs)))
        ∙ ap (λ (l : List X). l ++ change_first test f (drop (i + 1) xs)) (sym front);
  }

pub never : {X : Type 0} (test : X → Bool) (xs : List X) (i : ℕ) → length xs ≤ i → NoneBefore test xs i → find test xs ≡ None
never test xs i past before = before.finding ∙ ap (find test) (drop_all i xs past)

-- if none is found, all stay
pub stays : {X : Type 0} (test : X → Bool) (f : X → X) (xs : List X) → find test xs ≡ None → change_first test f xs ≡ xs
unfolding change_first
stays test f [] e = refl
stays {X} test f (x ∷ xs) e =
    let a = by (test x) e in
    ap (λ (b : Bool). cond b (f x ∷ xs) (x ∷ change_first test f xs)) a.0 ∙ ap (λ (l : List X). x ∷ l) (stays test f xs a.1)
  where
    by : (b : Bool) → cond b (Some x) (find test xs) ≡ None → (b ≡ false) × (find test xs ≡ None)
    by true e = absurd cc
    by false e = (refl, e)

-- a change of the item at the place of the first
pub first_set : {X : Type 0} (test : X → Bool) (f : X → X) (xs : List X) (i : ℕ) (x y : X) → FirstAt test xs i → y ≡ f (get_or xs i x) → set xs i y ≡ change_first test f xs
first_set test f xs i x y first done = sym (first.changed f x ∙ ap (set xs i) (sym done))

pub first_put : {X : Type 0} (test : X → Bool) (f : X → X) (xs : List X) (i : ℕ) (x y : X) → FirstAt test xs i → x ≡ get_or xs i x → y ≡ f x → set xs i y ≡ change_first test f xs
first_put test f xs i x y first is done = first_set test f xs i x y first (done ∙ ap f is)
