-- What a change lists: each page of the later image that it lists, and that it lists those that differ.
use Rattle.std.proofs.Common.{◌≡◌, ℕ, zero, suc, ◌+◌, ◌<◌, ◌≤◌, Bool, true, false, cond, eqb, ltb, List, [], ◌∷◌, length, Option, Some, None, refl, sym, ap, subst, arith, inl, inr}
use Rattle.std.specs.List.{AllByRecursion}
use Rattle.std.specs.Str.{bytes_eq}
use Rattle.std.proofs.lemmas.Bool.{cases_lt, cases_Bool, lt-ltb, le-ltb, eq-eqb, ne_eqb}
use Rattle.std.proofs.lemmas.Slice.Eq.{bytes_eq-Decides}
use Rattle.dq_base.specs.declared.images.Image.{Image}
use Rattle.dq_base.specs.declared.pages.NumberedPage.{NumberedPage}
use Rattle.dq_base.specs.Images.{page_start, file_of, page_from, page_at, sizes_page}
use Rattle.dq_base.specs.Changes.{changed_page, changed_from}
use Rattle.dq_base.proofs.PutPages.{SomeOf, SomeOf-append_left, SomeOf-append_right, All-append}

abbrev pub numbered : ℕ → List ℕ → NumberedPage
numbered number page = record { number = number; page = page }

-- ---- the page of a number above 1

pub page_at_inside : (image : Image) (n : ℕ) → 1 < n → page_start n < length (file_of image n) → page_at image n ≡ Some (page_from (file_of image n) (page_start n))
unfolding page_at
page_at_inside image n above inside =
    let not_sizes : eqb n 1 ≡ false = ne_eqb n 1 (λ e. omega arith) in
    let over : ltb 1 n ≡ true = lt-ltb 1 n above in
    let within : ltb (page_start n) (length (file_of image n)) ≡ true = lt-ltb _ _ inside in
    rw (not_sizes, over, within) refl

pub page_at_past : (image : Image) (n : ℕ) → 1 < n → length (file_of image n) ≤ page_start n → page_at image n ≡ None
unfolding page_at
page_at_past image n above past =
    let not_sizes : eqb n 1 ≡ false = ne_eqb n 1 (λ e. omega arith) in
    let over : ltb 1 n ≡ true = lt-ltb 1 n above in
    let beyond : ltb (page_start n) (length (file_of image n)) ≡ false = le-ltb _ _ past in
    rw (not_sizes, over, beyond) refl

pub page_at-one : (image : Image) (n : ℕ) → n ≡ 1 → page_at image n ≡ Some (sizes_page (length image.main) (length image.side))
unfolding page_at
page_at-one image n e = rw (eq-eqb n 1 e) refl

pub page_at-zero : (image : Image) (n : ℕ) → n ≡ 0 → page_at image n ≡ None
unfolding page_at
page_at-zero image n e = rw e refl

-- a page above 1 is one of its file, which reaches into it
pub page_at_is : (image : Image) (n : ℕ) (page : List ℕ) → 1 < n → page_at image n ≡ Some page → (page ≡ page_from (file_of image n) (page_start n)) × (page_start n < length (file_of image n))
page_at_is image n page above e =
    elim (cases_lt (page_start n) (length (file_of image n))) [
      | inl inside ↦ let is = page_at_inside image n above inside in (cc, inside)
      | inr past ↦ let is = page_at_past image n above past in absurd cc
    ]

-- ---- the pages of a change

changed_page_all : (P : NumberedPage → Type 0) (n : ℕ) (before after : Option (List ℕ)) → ((page : List ℕ) → after ≡ Some page → P (numbered n page)) → AllByRecursion P (changed_page n before after)
changed_page_all P n None None h = tt
changed_page_all P n (Some old) None h = tt
changed_page_all P n None (Some page) h = (h page refl, tt)
changed_page_all P n (Some old) (Some page) h =
    elim (bytes_eq old page) as (λ t. AllByRecursion P (cond t [] (numbered n page ∷ []))) [ true ↦ tt | false ↦ (h page refl, tt) ]

changed_page_some : (P : NumberedPage → Type 0) (n : ℕ) (before : Option (List ℕ)) (page : List ℕ) → (before ≡ Some page → ⊥) → P (numbered n page) → SomeOf P (changed_page n before (Some page))
changed_page_some P n None page differs h = inl h
changed_page_some P n (Some old) page differs h =
    elim (cases_Bool (bytes_eq old page)) [
      | inl same ↦ absurd (differs (ap (λ (x : List ℕ). Some x) ((bytes_eq-Decides old page).0 same)))
      | inr other ↦ subst (λ (t : Bool). SomeOf P (cond t [] (numbered n page ∷ []))) (sym other) (inl h)
    ]

-- what holds of each page of b from a number on holds of each page that a change to b lists from there on
pub changed_from_all : (P : NumberedPage → Type 0) (n count : ℕ) (a b : Image) → ((m : ℕ) (page : List ℕ) → n ≤ m → page_at b m ≡ Some page → P (numbered m page)) → AllByRecursion P (changed_from n count a b)
unfolding changed_from
changed_from_all P n zero a b h = tt
changed_from_all P n (suc count) a b h =
    All-append P (changed_page n (page_at a n) (page_at b n)) (changed_from (suc n) count a b)
    (changed_page_all P n (page_at a n) (page_at b n) (λ page e. h n page (omega arith) e))
    (changed_from_all P (suc n) count a b (λ m page le e. h m page (omega arith) e))

-- a change lists a page of b that a has not, or has otherwise
pub changed_from_some : (P : NumberedPage → Type 0) (n count : ℕ) (a b : Image) (m : ℕ) (page : List ℕ) → n ≤ m → m < n + count → page_at b m ≡ Some page → (page_at a m ≡ Some page → ⊥) → P (numbered m page)
    → SomeOf P (changed_from n count a b)
unfolding changed_from
changed_from_some P n zero a b m page from to is differs h = absurd (omega arith)
changed_from_some P n (suc count) a b m page from to is differs h =
    elim (cases_lt n m) [
      | inl later ↦ SomeOf-append_right P (changed_page n (page_at a n) (page_at b n)) (changed_from (suc n) count a b) (changed_from_some P (suc n) count a b m page (omega arith) (omega arith) is differs h)
      | inr here ↦
          let same : m ≡ n = omega arith in
          let listed : SomeOf P (changed_page m (page_at a m) (page_at b m)) = rw is (changed_page_some P m (page_at a m) page differs h) in
          SomeOf-append_left P (changed_page n (page_at a n) (page_at b n)) (changed_from (suc n) count a b) (subst (λ (k : ℕ). SomeOf P (changed_page k (page_at a k) (page_at b k))) same listed)
    ]
