-- Sets that stand one after the other in a list of pages: the list in two parts, and how many pages they have.
use Rattle.std.proofs.Common.{◌≡◌, ℕ, ◌+◌, ◌-◌, ◌≤◌, true, false, cond, eqb, List, [], ◌∷◌, ◌++◌, length, take, drop, refl, sym, ap, ◌∙◌, append-nil, add-zero, zero-add, append_assoc, arith}
use Rattle.std.specs.Prelude.{sum_by}
use Rattle.std.specs.List.{flat_map}
use Rattle.std.proofs.lemmas.List.{length_push, length-append, length-map, length-drop, take-append-drop, take_at, drop_at, take_all, take-append-le}
use Rattle.std.proofs.lemmas.List.Sums.{sum_by-cons}
use Rattle.dq_base.specs.declared.pages.NumberedPage.{NumberedPage}
use Rattle.dq_base.specs.Applying.{lengths_in}
use Rattle.page_store.specs.Sets.{sets_from, sets_of, open_after, lengths_of_set}
use Rattle.page_store.specs.Holding.{IsEnd}
use Rattle.page_store.proofs.Shown.{take_split}

-- ---- a list in two parts

pub sets_from-append : (begun xs ys : List NumberedPage) → sets_from begun (xs ++ ys) ≡ sets_from begun xs ++ sets_from (open_after begun xs) ys
sets_from-append begun [] ys = refl
sets_from-append begun (p ∷ xs) ys =
    elim (eqb p.number 1) as (λ t. cond t ((begun ++ p ∷ []) ∷ sets_from [] (xs ++ ys)) (sets_from (begun ++ p ∷ []) (xs ++ ys))
    ≡ cond t ((begun ++ p ∷ []) ∷ sets_from [] xs) (sets_from (begun ++ p ∷ []) xs) ++ sets_from (cond t (open_after [] xs) (open_after (begun ++ p ∷ []) xs)) ys) [
      | true ↦ ap (λ (ss : List (List NumberedPage)). (begun ++ p ∷ []) ∷ ss) (sets_from-append [] xs ys)
      | false ↦ sets_from-append (begun ++ p ∷ []) xs ys
    ]

pub open_after-append : (begun xs ys : List NumberedPage) → open_after begun (xs ++ ys) ≡ open_after (open_after begun xs) ys
open_after-append begun [] ys = refl
open_after-append begun (p ∷ xs) ys =
    elim (eqb p.number 1) as (λ t. cond t (open_after [] (xs ++ ys)) (open_after (begun ++ p ∷ []) (xs ++ ys)) ≡ open_after (cond t (open_after [] xs) (open_after (begun ++ p ∷ []) xs)) ys) [
      | true ↦ open_after-append [] xs ys
      | false ↦ open_after-append (begun ++ p ∷ []) xs ys
    ]

-- after whole sets
pub sets_of-append : (xs ys : List NumberedPage) → open_after [] xs ≡ [] → sets_of (xs ++ ys) ≡ sets_of xs ++ sets_of ys
unfolding sets_of
sets_of-append xs ys closed = sets_from-append [] xs ys ∙ ap (λ (b : List NumberedPage). sets_from [] xs ++ sets_from b ys) closed

pub closed-append : (xs ys : List NumberedPage) → open_after [] xs ≡ [] → open_after [] (xs ++ ys) ≡ open_after [] ys
closed-append xs ys closed = open_after-append [] xs ys ∙ ap (λ (b : List NumberedPage). open_after b ys) closed

-- a place where a set ends cuts the sets in two
pub cut_sets : (pages : List NumberedPage) (count : ℕ) → IsEnd pages count → sets_of pages ≡ sets_of (take count pages) ++ sets_of (drop count pages)
cut_sets pages count end = ap sets_of (sym (take-append-drop count pages)) ∙ sets_of-append (take count pages) (drop count pages) end.closed

pub first_sets : (pages : List NumberedPage) (count : ℕ) → IsEnd pages count → take (length (sets_of (take count pages))) (sets_of pages) ≡ sets_of (take count pages)
first_sets pages count end =
    ap (take (length (sets_of (take count pages)))) (cut_sets pages count end) ∙ take_at (sets_of (take count pages)) (sets_of (drop count pages)) (length (sets_of (take count pages))) refl

pub later_sets : (pages : List NumberedPage) (count : ℕ) → IsEnd pages count → drop (length (sets_of (take count pages))) (sets_of pages) ≡ sets_of (drop count pages)
later_sets pages count end =
    ap (drop (length (sets_of (take count pages)))) (cut_sets pages count end) ∙ drop_at (sets_of (take count pages)) (sets_of (drop count pages)) (length (sets_of (take count pages))) refl

pub count_sets : (pages : List NumberedPage) (count : ℕ) → IsEnd pages count → length (sets_of pages) ≡ length (sets_of (take count pages)) + length (sets_of (drop count pages))
count_sets pages count end = ap length (cut_sets pages count end) ∙ length-append (sets_of (take count pages)) (sets_of (drop count pages))

pub end_closed : (pages : List NumberedPage) (count : ℕ) → IsEnd pages count → open_after [] pages ≡ [] → open_after [] (drop count pages) ≡ []
end_closed pages count end closed =
    sym (closed-append (take count pages) (drop count pages) end.closed) ∙ ap (open_after []) (take-append-drop count pages) ∙ closed

-- a later place where a set ends, counted from an earlier one
pub end_after : (pages : List NumberedPage) (count later : ℕ) → IsEnd pages count → IsEnd pages later → count ≤ later → IsEnd (drop count pages) (later - count)
end_after pages count later first second le = record {
  within = let w : later ≤ length pages = second.within in omega (arith, length-drop count pages);
  closed =
      sym (closed-append (take count pages) (take (later - count) (drop count pages)) first.closed)
      ∙ ap (open_after []) (sym (take_split count later pages le))
      ∙ second.closed;
}

pub sets_between : (pages : List NumberedPage) (count later : ℕ) → IsEnd pages count → count ≤ later
    → length (sets_of (take later pages)) ≡ length (sets_of (take count pages)) + length (sets_of (take (later - count) (drop count pages)))
sets_between pages count later first le =
    ap (λ (ps : List NumberedPage). length (sets_of ps)) (take_split count later pages le)
    ∙ ap length (sets_of-append (take count pages) (take (later - count) (drop count pages)) first.closed)
    ∙ length-append (sets_of (take count pages)) (sets_of (take (later - count) (drop count pages)))

pub end_whole : (pages : List NumberedPage) → open_after [] pages ≡ [] → IsEnd pages (length pages)
end_whole pages closed = record { within = omega arith; closed = ap (open_after []) (take_all (length pages) pages (omega arith)) ∙ closed }

pub end_longer : (pages more : List NumberedPage) (count : ℕ) → IsEnd pages count → IsEnd (pages ++ more) count
end_longer pages more count end =
    let w : count ≤ length pages = end.within in
    record { within = omega (arith, length-append pages more); closed = ap (open_after []) (take-append-le count pages more w) ∙ end.closed }

-- fewer pages have no more sets
pub fewer_sets : (pages : List NumberedPage) (count later : ℕ) → count ≤ later → length (sets_of (take count pages)) ≤ length (sets_of (take later pages))
unfolding sets_of
fewer_sets pages count later le =
    let xs : List NumberedPage = take count pages in
    let ys : List NumberedPage = take (later - count) (drop count pages) in
    let whole : length (sets_from [] (take later pages)) ≡ length (sets_from [] xs ++ sets_from (open_after [] xs) ys) =
    ap (λ (ps : List NumberedPage). length (sets_from [] ps)) (take_split count later pages le) ∙ ap length (sets_from-append [] xs ys) in
    omega (arith, whole, length-append (sets_from [] xs) (sets_from (open_after [] xs) ys))

-- ---- how many pages the sets have

pages_counted : (begun xs : List NumberedPage) → sum_by length (sets_from begun xs) + length (open_after begun xs) ≡ length begun + length xs
pages_counted begun [] = zero-add (length begun) ∙ sym (add-zero (length begun))
pages_counted begun (p ∷ xs) =
    elim (eqb p.number 1) as (λ t. sum_by length (cond t ((begun ++ p ∷ []) ∷ sets_from [] xs) (sets_from (begun ++ p ∷ []) xs)) + length (cond t (open_after [] xs) (open_after (begun ++ p ∷ []) xs)) ≡ length begun + length (p ∷ xs)) [
      | true ↦ omega (arith, sum_by-cons length (begun ++ p ∷ []) (sets_from [] xs), pages_counted [] xs, length_push begun p)
      | false ↦ omega (arith, pages_counted (begun ++ p ∷ []) xs, length_push begun p)
    ]

pub pages_of_sets : (pages : List NumberedPage) → open_after [] pages ≡ [] → sum_by length (sets_of pages) ≡ length pages
unfolding sets_of
pages_of_sets pages closed = let none : length (open_after [] pages) ≡ 0 = ap length closed in omega (arith, pages_counted [] pages, none)

lengths_counted : (sets : List (List NumberedPage)) → length (flat_map lengths_of_set sets) ≡ sum_by length sets
lengths_counted [] = refl
lengths_counted (set ∷ sets) =
    omega (arith, length-append (lengths_of_set set) (flat_map lengths_of_set sets), length-map set (λ p. lengths_in set), sum_by-cons length set sets, lengths_counted sets)

pub lengths_of_sets : (pages : List NumberedPage) → open_after [] pages ≡ [] → length (flat_map lengths_of_set (sets_of pages)) ≡ length pages
lengths_of_sets pages closed = lengths_counted (sets_of pages) ∙ pages_of_sets pages closed

-- the pages of the sets are the pages
pages_joined : (begun xs : List NumberedPage) → flat_map (λ (set : List NumberedPage). set) (sets_from begun xs) ++ open_after begun xs ≡ begun ++ xs
pages_joined begun [] = sym (append-nil begun)
pages_joined begun (p ∷ xs) =
    elim (eqb p.number 1) as (λ t. flat_map (λ (set : List NumberedPage). set) (cond t ((begun ++ p ∷ []) ∷ sets_from [] xs) (sets_from (begun ++ p ∷ []) xs)) ++ cond t (open_after [] xs) (open_after (begun ++ p ∷ []) xs) ≡ begun ++ (p ∷ xs)) [
      | true ↦
          append_assoc (begun ++ p ∷ []) (flat_map (λ (set : List NumberedPage). set) (sets_from [] xs)) (open_after [] xs)
          ∙ ap (λ (ys : List NumberedPage). (begun ++ p ∷ []) ++ ys) (pages_joined [] xs)
          ∙ append_assoc begun (p ∷ []) xs
      | false ↦ pages_joined (begun ++ p ∷ []) xs ∙ append_assoc begun (p ∷ []) xs
    ]

pub sets_joined : (pages : List NumberedPage) → open_after [] pages ≡ [] → flat_map (λ (set : List NumberedPage). set) (sets_of pages) ≡ pages
unfolding sets_of
sets_joined pages closed =
    sym (append-nil (flat_map (λ (set : List NumberedPage). set) (sets_from [] pages)))
    ∙ ap (λ (ys : List NumberedPage). flat_map (λ (set : List NumberedPage). set) (sets_from [] pages) ++ ys) (sym closed)
    ∙ pages_joined [] pages
