-- A value that is chosen by one test after another.
use Rattle.std.proofs.Common.{◌≡◌, Bool, true, false, cond, ◌⊎◌, inl, inr, Option, Some, None, refl}

pub some_is : {A : Type 0} (x y : A) → Some x ≡ Some y → x ≡ y
some_is x y e = cc

-- the first test held, or one of the others did
pub one_of : {A : Type 0} (b : Bool) (x : A) (others : Option A) (y : A) → cond b (Some x) others ≡ Some y → ((b ≡ true) × (x ≡ y)) ⊎ (others ≡ Some y)
one_of true x others y e = inl (refl, some_is x y e)
one_of false x others y e = inr e

-- no test is left
pub none_of : {A : Type 0} (x : A) (P : Type 0) → None ≡ Some x → P
none_of x P e = absurd cc
