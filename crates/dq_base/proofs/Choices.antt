-- What an answer that is there shows of the steps that gave it.
use Rattle.std.proofs.Common.{◌≡◌, Bool, true, false, cond, ◌⊎◌, inl, inr, List, ℕ, Option, Some, None, option_map, option_and_then, refl}
use Rattle.dq_base.specs.Texts.{or_else}

pub some_is : {A : Type 0} (x y : A) → Some x ≡ Some y → x ≡ y
some_is x y e = cc

-- a test that was passed
pub passed : {A : Type 0} (b : Bool) (o : Option A) (y : A) → cond b o None ≡ Some y → (b ≡ true) × (o ≡ Some y)
passed true o y e = (refl, e)
passed false o y e = absurd cc

-- a test that was not
pub not_passed : {A : Type 0} (b : Bool) (o : Option A) (y : A) → cond b None o ≡ Some y → (b ≡ false) × (o ≡ Some y)
not_passed true o y e = absurd cc
not_passed false o y e = (refl, e)

pub mapped : {A B : Type 0} (f : A → B) (o : Option A) (y : B) → option_map f o ≡ Some y → (x : A) × (o ≡ Some x) × (f x ≡ y)
mapped f None y e = absurd cc
mapped f (Some x) y e = (x, refl, some_is (f x) y e)

pub bound : {A B : Type 0} (o : Option A) (f : A → Option B) (y : B) → option_and_then f o ≡ Some y → (x : A) × (o ≡ Some x) × (f x ≡ Some y)
bound None f y e = absurd cc
bound (Some x) f y e = (x, refl, e)

-- the first of two that was there, or the second
pub chosen : {A : Type 0} (o : Option (List ℕ)) (f : List ℕ → Option A) (other : Option A) (y : A) → or_else o f other ≡ Some y
    → ((text : List ℕ) × (o ≡ Some text) × (f text ≡ Some y)) ⊎ (other ≡ Some y)
chosen None f other y e = inr e
chosen (Some text) f other y e = inl (text, refl, e)
