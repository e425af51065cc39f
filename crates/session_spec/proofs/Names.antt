-- Names that are the same, or not.
use Rattle.std.proofs.Common.{◌≡◌, ◌≢◌, ◌⊎◌, inl, inr, ℕ, Bool, true, false, true≢false, List, refl, sym, ◌∙◌, bytes_eq}
use Rattle.std.proofs.lemmas.Slice.Eq.{bytes_eq-Decides}

pub same_name : (x : List ℕ) → bytes_eq x x ≡ true
same_name x = (bytes_eq-Decides x x).1 refl

pub name_is : (x y : List ℕ) → bytes_eq x y ≡ true → x ≡ y
name_is x y e = (bytes_eq-Decides x y).0 e

pub is_name : (x y : List ℕ) → x ≡ y → bytes_eq x y ≡ true
is_name x y e = (bytes_eq-Decides x y).1 e

pub names_apart : (x y : List ℕ) → x ≢ y → bytes_eq x y ≡ false
names_apart x y apart = by (bytes_eq x y) refl
  where
    by : (b : Bool) → bytes_eq x y ≡ b → b ≡ false
    by true e = absurd (apart (name_is x y e))
    by false e = refl

pub other_name : (x y : List ℕ) → bytes_eq x y ≡ false → x ≢ y
other_name x y e q = true≢false (sym (is_name x y q) ∙ e)

pub one_or_other : (x y : List ℕ) → (x ≡ y) ⊎ (x ≢ y)
one_or_other x y = by (bytes_eq x y) refl
  where
    by : (b : Bool) → bytes_eq x y ≡ b → (x ≡ y) ⊎ (x ≢ y)
    by true e = inl (name_is x y e)
    by false e = inr (other_name x y e)
