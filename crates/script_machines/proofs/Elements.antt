-- What holds of each element of a list, and of what is chosen by a test.
use Rattle.std.proofs.Common.{◌≡◌, ℕ, zero, suc, Bool, true, false, cond, List, [], ◌∷◌, ◌++◌, Option, Some, None, get_or, set, subst, refl}
use Rattle.std.specs.List.{AllByRecursion}
use Rattle.std.specs.Option.{option_map}
use Rattle.dq_base.proofs.Choices.{some_is}

pub all_weaker : {X : Type 0} (P Q : X → Type 0) → ((x : X) → P x → Q x) → (xs : List X) → AllByRecursion P xs → AllByRecursion Q xs
all_weaker P Q weaker [] a = tt
all_weaker P Q weaker (x ∷ xs) a = (weaker x a.0, all_weaker P Q weaker xs a.1)

pub all_append : {X : Type 0} (P : X → Type 0) (xs ys : List X) → AllByRecursion P xs → AllByRecursion P ys → AllByRecursion P (xs ++ ys)
all_append P [] ys a b = b
all_append P (x ∷ xs) ys a b = (a.0, all_append P xs ys a.1 b)

pub all_set : {X : Type 0} (P : X → Type 0) (xs : List X) (i : ℕ) (x : X) → P x → AllByRecursion P xs → AllByRecursion P (set xs i x)
all_set P [] i x p a = tt
all_set P (y ∷ ys) zero x p a = (p, a.1)
all_set P (y ∷ ys) (suc i) x p a = (a.0, all_set P ys i x p a.1)

pub all_get_or : {X : Type 0} (P : X → Type 0) (xs : List X) (i : ℕ) (x : X) → P x → AllByRecursion P xs → P (get_or xs i x)
all_get_or P [] i x p a = p
all_get_or P (y ∷ ys) zero x p a = a.0
all_get_or P (y ∷ ys) (suc i) x p a = all_get_or P ys i x p a.1

pub where_some : {A : Type 0} (P : A → Type 0) (may : Bool) (x next : A) → P x → cond may (Some x) None ≡ Some next → P next
where_some P true x next p e = subst P (some_is x next e) p
where_some P false x next p e = absurd cc

pub where_mapped : {A B : Type 0} (P : B → Type 0) (f : A → B) (o : Option A) (next : B) → ((a : A) → o ≡ Some a → P (f a)) → option_map f o ≡ Some next → P next
where_mapped P f None next holds e = absurd cc
where_mapped P f (Some a) next holds e = subst P (some_is (f a) next e) (holds a refl)
