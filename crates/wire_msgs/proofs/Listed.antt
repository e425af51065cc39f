-- Fields that are written one after the other, and lists of them, one item on.
use Rattle.std.proofs.Common.{◌≡◌, ℕ, zero, suc, ◌+◌, ◌<◌, ◌≤◌, List, [], ◌∷◌, ◌++◌, length, take, get_or, Result, Ok, Err, refl, sym, ap, subst, ◌∙◌, append_assoc, arith}
use Rattle.std.specs.Prelude.{OnOk}
use Rattle.std.specs.declared.alloc.AllocError.{AllocError}
use Rattle.std.specs.List.{flat_map, AllByRecursion}
use Rattle.std.proofs.lemmas.List.{append-nil, take_more, take_all}
use Rattle.wire_words.specs.declared.value.Value.{Value}
use Rattle.wire_words.specs.Values.{IsInRange}
use Rattle.wire_msgs.specs.Fields.{Field, HaveSpellings, AllFit, field_bytes, body_bytes}

-- one field and then another
pub second_written : (old mid new a b : List ℕ) (r : Result Unit AllocError) → mid ≡ old ++ (a ++ []) → OnOk r (new ≡ mid ++ (b ++ [])) → OnOk r (new ≡ old ++ (a ++ (b ++ [])))
second_written old mid new a b (Err e) first second = second
second_written old mid new a b (Ok done) first second =
    second ∙ ap (λ (x : List ℕ). x ++ (b ++ [])) first ∙ append_assoc old (a ++ []) (b ++ []) ∙ ap (λ (x : List ℕ). old ++ x) (append_assoc a [] (b ++ []))

body_append : (fields more : List Field) → body_bytes (fields ++ more) ≡ body_bytes fields ++ body_bytes more
body_append [] more = refl
body_append (field ∷ fields) more = ap (λ (b : List ℕ). field_bytes field ++ b) (body_append fields more) ∙ sym (append_assoc (field_bytes field) (body_bytes fields) (body_bytes more))

fit_append : (fields more : List Field) → AllFit fields → AllFit more → AllFit (fields ++ more)
fit_append [] more a b = b
fit_append (field ∷ fields) more a b = (a.0, fit_append fields more a.1 b)

spell_split : (fields more : List Field) → HaveSpellings (fields ++ more) → HaveSpellings fields × HaveSpellings more
spell_split [] more s = (tt, s)
spell_split (field ∷ fields) more s = let r = spell_split fields more s.1 in ((s.0, r.0), r.1)

flat_append : {A : Type 0} (f : A → List Field) (xs ys : List A) → flat_map f (xs ++ ys) ≡ flat_map f xs ++ flat_map f ys
flat_append f [] ys = refl
flat_append f (x ∷ xs) ys = ap (λ (b : List Field). f x ++ b) (flat_append f xs ys) ∙ sym (append_assoc (f x) (flat_map f xs) (flat_map f ys))

-- the fields of one item more
flat_more : {A : Type 0} (f : A → List Field) (xs : List A) (i : ℕ) (x : A) → i < length xs → x ≡ get_or xs i x → flat_map f (take (i + 1) xs) ≡ flat_map f (take i xs) ++ f x
flat_more {A} f xs i x lt is =
    ap (flat_map f) (take_more xs i x lt ∙ ap (λ (w : A). take i xs ++ w ∷ []) (sym is)) ∙ flat_append f (take i xs) (x ∷ []) ∙ ap (λ (b : List Field). flat_map f (take i xs) ++ b) (append-nil (f x))

pub item_written : {A : Type 0} (f : A → List Field) (old : List ℕ) (xs : List A) (i : ℕ) (x : A) → i < length xs → x ≡ get_or xs i x
    → (old ++ body_bytes (flat_map f (take i xs))) ++ body_bytes (f x) ≡ old ++ body_bytes (flat_map f (take (i + 1) xs))
item_written f old xs i x lt is =
    append_assoc old (body_bytes (flat_map f (take i xs))) (body_bytes (f x))
    ∙ ap (λ (b : List ℕ). old ++ b) (sym (body_append (flat_map f (take i xs)) (f x)) ∙ ap body_bytes (sym (flat_more f xs i x lt is)))

pub item_fits : {A : Type 0} (f : A → List Field) (xs : List A) (i : ℕ) (x : A) → i < length xs → x ≡ get_or xs i x
    → AllFit (flat_map f (take i xs)) → AllFit (f x) → AllFit (flat_map f (take (i + 1) xs))
item_fits f xs i x lt is a b = subst AllFit (sym (flat_more f xs i x lt is)) (fit_append (flat_map f (take i xs)) (f x) a b)

-- an item of a list that can be written can be written
pub item_spelled : {A : Type 0} (f : A → List Field) (xs : List A) (i : ℕ) (x : A) → HaveSpellings (flat_map f xs) → i < length xs → x ≡ get_or xs i x → HaveSpellings (f x)
item_spelled f [] i x all lt is = absurd (omega (arith, lt))
item_spelled f (y ∷ xs) zero x all lt is = rw is (spell_split (f y) (flat_map f xs) all).0
item_spelled f (y ∷ xs) (suc i) x all lt is = item_spelled f xs i x (spell_split (f y) (flat_map f xs) all).1 (omega (arith, lt)) is

-- ---- values in range

all_append : (xs : List Value) (x : Value) → AllByRecursion IsInRange xs → IsInRange x → AllByRecursion IsInRange (xs ++ x ∷ [])
all_append [] x all is = (is, tt)
all_append (y ∷ xs) x all is = (all.0, all_append xs x all.1 is)

pub range_more : (xs : List Value) (i : ℕ) (x : Value) → i < length xs → x ≡ get_or xs i x → AllByRecursion IsInRange (take i xs) → IsInRange x → AllByRecursion IsInRange (take (i + 1) xs)
range_more xs i x lt same all is =
    subst (AllByRecursion IsInRange) (sym (take_more xs i x lt ∙ ap (λ (w : Value). take i xs ++ w ∷ []) (sym same))) (all_append (take i xs) x all is)

pub range_done : (xs : List Value) (i : ℕ) → length xs ≤ i → AllByRecursion IsInRange (take i xs) → AllByRecursion IsInRange xs
range_done xs i le all = subst (AllByRecursion IsInRange) (take_all i xs le) all
