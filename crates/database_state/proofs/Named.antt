-- What is done to the item of a name, seen through a map, and done twice.
use Rattle.std.proofs.Common.{◌≡◌, ℕ, Bool, true, false, cond, List, [], ◌∷◌, map, refl, sym, ap, ◌∙◌, Ordering, Less, Equal, Greater}
use Rattle.std.specs.List.{AllByRecursion}
use Rattle.std.specs.Ordering.{nat_cmp, is_eq, match_ordering}
use Rattle.std.specs.Cmp.Lexicographic.{slice_cmp}
use Rattle.std.proofs.lemmas.Map.Text.{is_eq-slice_cmp}
use Rattle.std.proofs.lemmas.Slice.Eq.{bytes_eq-Decides}
use Rattle.database_state.specs.ByName.{at_name, change_first}

abbrev pub compare : List ℕ → List ℕ → Ordering
compare x y = slice_cmp nat_cmp x y

pub compare_same : (x : List ℕ) → compare x x ≡ Equal
compare_same x = by (compare x x) (is_eq-slice_cmp x x ∙ (bytes_eq-Decides x x).1 refl)
  where
    by : (o : Ordering) → is_eq o ≡ true → o ≡ Equal
    by Less e = absurd cc
    by Equal e = refl
    by Greater e = absurd cc

pub compare_tie : (x y : List ℕ) → compare x y ≡ Equal → x ≡ y
compare_tie x y e = (bytes_eq-Decides x y).0 (sym (is_eq-slice_cmp x y) ∙ ap is_eq e)

-- ---- through a map that keeps names

pub map_at_name : {X Y : Type 0} (see : X → Y) (name_x : X → List ℕ) (name_y : Y → List ℕ) (new : X) (name : List ℕ) (f : X → X) (g : Y → Y) → ((x : X) → name_y (see x) ≡ name_x x) → ((x : X) → see (f x) ≡ g (see x)) → (xs : List X)
    → map see (at_name name_x new name f xs) ≡ at_name name_y (see new) name g (map see xs)
unfolding at_name
map_at_name see name_x name_y new name f g names does [] = ap (λ y. y ∷ []) (does new)
map_at_name {X} {Y} see name_x name_y new name f g names does (x ∷ xs) =
    let later = map_at_name see name_x name_y new name f g names does xs in
    by (compare name (name_x x)) later
    ∙ ap (λ (n : List ℕ). match_ordering (compare name n) (g (see new) ∷ see x ∷ map see xs) (g (see x) ∷ map see xs) (see x ∷ at_name name_y (see new) name g (map see xs))) (sym (names x))
  where
    by : (o : Ordering) → map see (at_name name_x new name f xs) ≡ at_name name_y (see new) name g (map see xs) → map see (match_ordering o (f new ∷ x ∷ xs) (f x ∷ xs) (x ∷ at_name name_x new name f xs))
        ≡ match_ordering o (g (see new) ∷ see x ∷ map see xs) (g (see x) ∷ map see xs) (see x ∷ at_name name_y (see new) name g (map see xs))
    by Less later = ap (λ y. y ∷ see x ∷ map see xs) (does new)
    by Equal later = ap (λ y. y ∷ map see xs) (does x)
    by Greater later = ap (λ ys. see x ∷ ys) later

pub map_change_first : {X Y : Type 0} (see : X → Y) (test : X → Bool) (f : X → X) → ((x : X) → see (f x) ≡ see x) → (xs : List X) → map see (change_first test f xs) ≡ map see xs
unfolding change_first
map_change_first see test f same [] = refl
map_change_first {X} {Y} see test f same (x ∷ xs) = by (test x) (map_change_first see test f same xs)
  where
    by : (b : Bool) → map see (change_first test f xs) ≡ map see xs → map see (cond b (f x ∷ xs) (x ∷ change_first test f xs)) ≡ see x ∷ map see xs
    by true later = ap (λ y. y ∷ map see xs) (same x)
    by false later = ap (λ ys. see x ∷ ys) later

-- ---- twice

pub at_name_twice : {X : Type 0} (name_of : X → List ℕ) (new : X) (name : List ℕ) (f g : X → X) → name_of new ≡ name → ((x : X) → name_of (f x) ≡ name_of x) → (xs : List X)
    → at_name name_of new name g (at_name name_of new name f xs) ≡ at_name name_of new name (λ x. g (f x)) xs
unfolding at_name
at_name_twice name_of new name f g is keeps [] =
    let same : compare name (name_of (f new)) ≡ Equal = ap (compare name) (keeps new ∙ is) ∙ compare_same name in
    ap (λ (o : Ordering). match_ordering o (g new ∷ f new ∷ []) (g (f new) ∷ []) (f new ∷ g new ∷ [])) same
at_name_twice {X} name_of new name f g is keeps (x ∷ xs) = by (compare name (name_of x)) refl (at_name_twice name_of new name f g is keeps xs)
  where
    by : (o : Ordering) → compare name (name_of x) ≡ o → at_name name_of new name g (at_name name_of new name f xs) ≡ at_name name_of new name (λ y. g (f y)) xs
        → at_name name_of new name g (match_ordering o (f new ∷ x ∷ xs) (f x ∷ xs) (x ∷ at_name name_of new name f xs))
        ≡ match_ordering o (g (f new) ∷ x ∷ xs) (g (f x) ∷ xs) (x ∷ at_name name_of new name (λ y. g (f y)) xs)
    by Less e later =
        let same : compare name (name_of (f new)) ≡ Equal = ap (compare name) (keeps new ∙ is) ∙ compare_same name in
        ap (λ (o : Ordering). match_ordering o (g new ∷ f new ∷ x ∷ xs) (g (f new) ∷ x ∷ xs) (f new ∷ at_name name_of new name g (x ∷ xs))) same
    by Equal e later =
        let same : compare name (name_of (f x)) ≡ Equal = ap (compare name) (keeps x) ∙ e in
        ap (λ (o : Ordering). match_ordering o (g new ∷ f x ∷ xs) (g (f x) ∷ xs) (f x ∷ at_name name_of new name g xs)) same
    by Greater e later =
        ap (λ (o : Ordering). match_ordering o (g new ∷ x ∷ at_name name_of new name f xs) (g x ∷ at_name name_of new name f xs) (x ∷ at_name name_of new name g (at_name name_of new name f xs))) e
        ∙ ap (λ (ys : List X). x ∷ ys) later

-- two changes that are one for the new item and for each of the name
pub at_name_alike : {X : Type 0} (name_of : X → List ℕ) (new : X) (name : List ℕ) (f g : X → X) → f new ≡ g new → (xs : List X) → AllByRecursion (λ x. name_of x ≡ name → f x ≡ g x) xs
    → at_name name_of new name f xs ≡ at_name name_of new name g xs
unfolding at_name
at_name_alike name_of new name f g first [] alike = ap (λ x. x ∷ []) first
at_name_alike {X} name_of new name f g first (x ∷ xs) alike = by (compare name (name_of x)) refl (at_name_alike name_of new name f g first xs alike.1)
  where
    by : (o : Ordering) → compare name (name_of x) ≡ o → at_name name_of new name f xs ≡ at_name name_of new name g xs
        → match_ordering o (f new ∷ x ∷ xs) (f x ∷ xs) (x ∷ at_name name_of new name f xs) ≡ match_ordering o (g new ∷ x ∷ xs) (g x ∷ xs) (x ∷ at_name name_of new name g xs)
    by Less e later = ap (λ y. y ∷ x ∷ xs) first
    by Equal e later = ap (λ y. y ∷ xs) (alike.0 (sym (compare_tie name (name_of x) e)))
    by Greater e later = ap (λ ys. x ∷ ys) later
