-- Names in order, if something is done to the item of a name.
use Rattle.std.proofs.Common.{◌≡◌, ℕ, List, [], ◌∷◌, map, refl, sym, ap, subst, ◌∙◌, Ordering, Less, Equal, Greater}
use Rattle.std.specs.List.{AllByRecursion}
use Rattle.std.specs.Ordering.{match_ordering, ordering_reverse}
use Rattle.std.specs.List.Sorted.{IsStrictlySortedBy}
use Rattle.std.proofs.lemmas.Cmp.{nat_list_cmp_total}
use Rattle.database_state.specs.ByName.{at_name, Ascend}
use Rattle.database_state.proofs.Named.{compare}

pub all_above : (x y : List ℕ) (names : List (List ℕ)) → compare x y ≡ Less → AllByRecursion (λ z. compare y z ≡ Less) names → AllByRecursion (λ z. compare x z ≡ Less) names
all_above x y [] e above = tt
all_above x y (z ∷ names) e above = (nat_list_cmp_total.trans x y z e above.0, all_above x y names e above.1)

module _ {X : Type 0} (name_of : X → List ℕ) (new : X) (name : List ℕ) (is : name_of new ≡ name) (f : X → X) (keeps : (x : X) → name_of (f x) ≡ name_of x) where
  new_name : name_of (f new) ≡ name
  new_name = keeps new ∙ is

  pub all_names : (P : List ℕ → Type 0) → P name → (xs : List X) → AllByRecursion P (map name_of xs) → AllByRecursion P (map name_of (at_name name_of new name f xs))
  unfolding at_name
  all_names P p [] all = (subst P (sym new_name) p, tt)
  all_names P p (x ∷ xs) all =
      let Q : Ordering → Type 0 = λ o. AllByRecursion P (map name_of (match_ordering o (f new ∷ x ∷ xs) (f x ∷ xs) (x ∷ at_name name_of new name f xs))) in
      elim (compare name (name_of x)) as Q [
        | Less ↦ (subst P (sym new_name) p, all)
        | Equal ↦ (subst P (sym (keeps x)) all.0, all.1)
        | Greater ↦ (all.0, all_names P p xs all.1)
      ]

  pub order_kept : (xs : List X) → Ascend (map name_of xs) → Ascend (map name_of (at_name name_of new name f xs))
  unfolding at_name IsStrictlySortedBy
  order_kept [] order = (tt, tt)
  order_kept (x ∷ xs) order =
      let Q : Ordering → Type 0 = λ o. compare name (name_of x) ≡ o → Ascend (map name_of (match_ordering o (f new ∷ x ∷ xs) (f x ∷ xs) (x ∷ at_name name_of new name f xs))) in
      let go : (o : Ordering) → Q o =
      λ o. elim o as Q [
        | Less ↦ λ e. (subst (λ (n : List ℕ). AllByRecursion (λ z. compare n z ≡ Less) (name_of x ∷ map name_of xs)) (sym new_name) (e, all_above name (name_of x) (map name_of xs) e order.0), order)
        | Equal ↦ λ e. (subst (λ (n : List ℕ). AllByRecursion (λ z. compare n z ≡ Less) (map name_of xs)) (sym (keeps x)) order.0, order.1)
        | Greater ↦ λ e. (all_names (λ z. compare (name_of x) z ≡ Less) (nat_list_cmp_total.antisymm (name_of x) name ∙ ap ordering_reverse e) xs order.0, order_kept xs order.1)
      ] in
      go (compare name (name_of x)) refl

pub same_names : {X : Type 0} (name_of : X → List ℕ) (f : X → X) → ((x : X) → name_of (f x) ≡ name_of x) → (xs : List X) → map name_of (map f xs) ≡ map name_of xs
same_names name_of f keeps [] = refl
same_names name_of f keeps (x ∷ xs) = rw (keeps x, same_names name_of f keeps xs) refl
