-- Changes in order, and the images that they make.
use Rattle.std.proofs.Common.{◌≡◌, ℕ, zero, suc, Bool, true, false, List, [], ◌∷◌, ◌++◌, take, refl, sym, ap, ◌∙◌, subst}
use Rattle.std.specs.Prelude.{Option, Some, None, slice_get, bytes_eq, if◌then◌else◌}
use Rattle.std.specs.Option.{option_or}
use Rattle.dq_base.specs.declared.images.Image.{Image}
use Rattle.headline.specs.Headline.{Change, image_in}

pub take_one : (xs : List Change) (k : ℕ) (c : Change) → slice_get xs k ≡ Some c → take (suc k) xs ≡ take k xs ++ c ∷ []
take_one [] zero c e = absurd cc
take_one [] (suc k) c e = absurd cc
take_one (x ∷ xs) zero c e = let f : x ≡ c = cc in ap (λ y. y ∷ []) f
take_one (x ∷ xs) (suc k) c e = ap (λ ys. x ∷ ys) (take_one xs k c e)

pub take_none : (xs : List Change) (k : ℕ) → slice_get xs k ≡ None → take (suc k) xs ≡ take k xs
take_none [] zero e = refl
take_none [] (suc k) e = refl
take_none (x ∷ xs) zero e = absurd cc
take_none (x ∷ xs) (suc k) e = ap (λ ys. x ∷ ys) (take_none xs k e)

or_if : (b : Bool) (o p : Option Image) (a : Image) → option_or (if b then Some a else o) p ≡ (if b then Some a else option_or o p)
or_if true o p a = refl
or_if false o p a = refl

pub image_one : (xs : List Change) (c : Change) (name : List ℕ) → image_in (xs ++ c ∷ []) name ≡
    (if bytes_eq c.name name then Some c.after else image_in xs name)
image_one [] c name = refl
image_one (x ∷ xs) c name =
    ap (λ o. option_or o (if bytes_eq x.name name then Some x.after else None)) (image_one xs c name)
    ∙ or_if (bytes_eq c.name name) (image_in xs name) (if bytes_eq x.name name then Some x.after else None) c.after

-- the images after the first k changes have a property
abbrev pub Have : (Image → Type 0) → List Change → ℕ → Type 0
Have P order k = (name : List ℕ) (image : Image) → image_in (take k order) name ≡ Some image → P image

pub image_by : (P : Image → Type 0) (b : Bool) (o : Option Image) (a image : Image) → (o ≡ Some image → P image) → P a →
    (if b then Some a else o) ≡ Some image → P image
image_by P true o a image h p q = let f : a ≡ image = cc in subst P f p
image_by P false o a image h p q = h q

one_has : (P : Image → Type 0) (order : List Change) (k : ℕ) (o : Option Change) → slice_get order k ≡ o → Have P order k →
    ((c : Change) → slice_get order k ≡ Some c → P c.after) → Have P order (suc k)
one_has P order k None is rest each name image e = rest name image (subst (λ cs. image_in cs name ≡ Some image) (take_none order k is) e)
one_has P order k (Some c) is rest each name image e = image_by P (bytes_eq c.name name) (image_in (take k order) name) c.after image (rest name image)
    (each c is)
    (sym (ap (λ cs. image_in cs name) (take_one order k c is) ∙ image_one (take k order) c name) ∙ e)

-- A property of each change's image, if the images before it have it, is one of all images.
pub all_have : (P : Image → Type 0) (order : List Change) → ((i : ℕ) (c : Change) → slice_get order i ≡ Some c → Have P order i → P c.after) → (k : ℕ) →
    Have P order k
all_have P order each zero name image e = absurd cc
all_have P order each (suc k) name image e =
    one_has P order k (slice_get order k) refl (all_have P order each k) (λ c is. each k c is (all_have P order each k)) name image e
