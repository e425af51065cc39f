-- The change from one image to another by the numbers at which they may differ.
use Rattle.std.proofs.Common.{Ordering, Less, Equal, Greater, ◌≡◌, ◌≢◌, ℕ, zero, suc, ◌+◌, ◌%◌, ◌^◌, ◌<◌, ◌≤◌, Bool, true, false, cond, eqb, List, [], ◌∷◌, ◌++◌, length, Option, Some, None, inl, inr, refl, sym, ap, subst, ◌∙◌, arith}
use Rattle.std.specs.Prelude.{◌&&◌, ◌==◌}
use Rattle.std.specs.List.{AllByRecursion}
use Rattle.std.specs.Str.{bytes_eq}
use Rattle.std.specs.Ordering.{MatchOrdering, match_ordering, nat_cmp}
use Rattle.std.specs.Cmp.{ranked}
use Rattle.std.specs.BTreeSet.{insert_key}
use Rattle.std.proofs.lemmas.Bool.{cases_Bool, cases_lt, both_ways, and_parts, and_from, cond-true, cond-false, eq-eqb, eqb-true, lt-ltb, le-ltb, false_from_ne_true}
use Rattle.std.proofs.lemmas.List.{ext_get_or}
use Rattle.std.proofs.lemmas.Slice.Eq.{bytes_eq-Decides}
use Rattle.dq_base.specs.declared.images.Image.{Image}
use Rattle.dq_base.specs.declared.pages.NumberedPage.{NumberedPage}
use Rattle.dq_base.specs.Images.{resized, page_at, page_start}
use Rattle.dq_base.specs.Changes.{same_image, changed_page, changed_from, numbers_above_one, sizes_of, changed}
use Rattle.dq_base.specs.Applying.{stated_main, stated_side, put_pages, applied}
use Rattle.dq_base.proofs.PutPages.{SomeOf}
use Rattle.dq_base.proofs.FileBytes.{length-resized, get_or-resized}
use Rattle.dq_base.proofs.ChangeLaw.{same_images, changed_is, applied_change, stated_main-sizes_page, stated_side-sizes_page}
use Rattle.dq_base.proofs.ChangedPages.{numbered, page_at_past, changed_from_some}
use Rattle.image_diff.specs.Touched.{no_pages}
use Rattle.image_diff.specs.Touched.{numbers_of, NoneIs, DiffersOnlyAt, changed_at, same_lengths, change_at, Ascends, put_in_order, ListsAll}

-- ---- numbers

pub none_left : (n : ℕ) (ns ms : List ℕ) → NoneIs n (ns ++ ms) → NoneIs n ns
none_left n [] ms h = tt
none_left n (m ∷ ns) ms h = (h.0, none_left n ns ms h.1)

pub none_right : (n : ℕ) (ns ms : List ℕ) → NoneIs n (ns ++ ms) → NoneIs n ms
none_right n [] ms h = h
none_right n (m ∷ ns) ms h = none_right n ns ms h.1

-- a number is not one of those above it
none_above : (n low : ℕ) (ns : List ℕ) → n ≤ low → Ascends low ns → NoneIs n ns
none_above n low [] le h = tt
none_above n low (m ∷ ns) le h = ((λ e. omega (arith, h.0, e, le)), none_above n m ns (omega (arith, h.0, le)) h.1)

none_inserted : (n : ℕ) (keys : List ℕ) (k : ℕ) → NoneIs n (insert_key nat_cmp keys k) → (k ≢ n) × NoneIs n keys
none_inserted n [] k h = (h.0, tt)
none_inserted n (x ∷ xs) k h = by (nat_cmp k x) (ranked k x (nat_cmp k x) refl) (none_inserted n xs k) h
  where
    by : (r : Ordering) → MatchOrdering r (k < x) (k ≡ x) (x < k) → (NoneIs n (insert_key nat_cmp xs k) → (k ≢ n) × NoneIs n xs) → NoneIs n (match_ordering r (k ∷ x ∷ xs) (x ∷ xs) (x ∷ insert_key nat_cmp xs k)) → (k ≢ n) × NoneIs n (x ∷ xs)
    by Less is rest g = (g.0, g.1)
    by Equal is rest g = ((λ e. g.0 (sym is ∙ e)), g)
    by Greater is rest g = let r = rest g.1 in (r.0, (g.0, r.1))

ascends_inserted : (low : ℕ) (keys : List ℕ) (k : ℕ) → low < k → Ascends low keys → Ascends low (insert_key nat_cmp keys k)
ascends_inserted low [] k above h = (above, tt)
ascends_inserted low (x ∷ xs) k above h = by (nat_cmp k x) (ranked k x (nat_cmp k x) refl) (λ (over : x < k). ascends_inserted x xs k over h.1)
  where
    by : (r : Ordering) → MatchOrdering r (k < x) (k ≡ x) (x < k) → (x < k → Ascends x (insert_key nat_cmp xs k)) → Ascends low (match_ordering r (k ∷ x ∷ xs) (x ∷ xs) (x ∷ insert_key nat_cmp xs k))
    by Less is rest = (above, (is, h.1))
    by Equal is rest = h
    by Greater is rest = (h.0, rest is)

-- numbers above a bound that are put in order ascend from above it
pub in_order_ascends : (low : ℕ) (keys ns : List ℕ) → AllByRecursion (λ (n : ℕ). low < n) ns → Ascends low keys → Ascends low (put_in_order keys ns)
in_order_ascends low keys [] above h = h
in_order_ascends low keys (n ∷ ns) above h = in_order_ascends low (insert_key nat_cmp keys n) ns above.1 (ascends_inserted low keys n above.0 h)

-- and are the same numbers
pub none_in_order : (n : ℕ) (keys ns : List ℕ) → NoneIs n (put_in_order keys ns) → NoneIs n keys × NoneIs n ns
none_in_order n keys [] h = (h, tt)
none_in_order n keys (m ∷ ns) h =
    let rest = none_in_order n (insert_key nat_cmp keys m) ns h in
    let first = none_inserted n keys m rest.0 in
    (first.1, (first.0, rest.1))

-- the numbers of pages are above 1
pub numbers_above : (ps : List NumberedPage) → AllByRecursion (λ (n : ℕ). 1 < n) (numbers_of ps)
numbers_above [] = tt
numbers_above (p ∷ ps) = elim (cases_lt 1 p.number) [
  | inl above ↦ subst (λ (b : Bool). AllByRecursion (λ (n : ℕ). 1 < n) (cond b (p.number ∷ numbers_of ps) (numbers_of ps))) (sym (lt-ltb 1 p.number above)) (above, numbers_above ps)
  | inr low ↦ subst (λ (b : Bool). AllByRecursion (λ (n : ℕ). 1 < n) (cond b (p.number ∷ numbers_of ps) (numbers_of ps))) (sym (le-ltb 1 p.number low)) (numbers_above ps)
]

-- a page with a number above 1 has it among the numbers
none_listed : (n : ℕ) → 1 < n → (ps qs : List NumberedPage) → SomeOf (λ (p : NumberedPage). p.number ≡ n) ps → NoneIs n (numbers_of (ps ++ qs)) → ⊥
none_listed n above [] qs h none = absurd h
none_listed n above (p ∷ ps) qs (inl here) none =
    let over : 1 < p.number = omega (arith, here, above) in
    (subst (λ (b : Bool). NoneIs n (cond b (p.number ∷ numbers_of (ps ++ qs)) (numbers_of (ps ++ qs)))) (lt-ltb 1 p.number over) none).0 here
none_listed n above (p ∷ ps) qs (inr later) none = elim (cases_lt 1 p.number) [
  | inl over ↦ none_listed n above ps qs later (subst (λ (b : Bool). NoneIs n (cond b (p.number ∷ numbers_of (ps ++ qs)) (numbers_of (ps ++ qs)))) (lt-ltb 1 p.number over) none).1
  | inr low ↦ none_listed n above ps qs later (subst (λ (b : Bool). NoneIs n (cond b (p.number ∷ numbers_of (ps ++ qs)) (numbers_of (ps ++ qs)))) (le-ltb 1 p.number low) none)
]

-- ---- pages that are alike

none_at : (n : ℕ) (page : Option (List ℕ)) → changed_page n page page ≡ []
none_at n None = refl
none_at n (Some page) = cond-true (bytes_eq page page) [] (record { number = n; page = page } ∷ []) ((bytes_eq-Decides page page).1 refl)

-- nothing is listed of a page that isn't there later, or is the same
data Alike (before after : Option (List ℕ)) : Type 0 where
  Gone : after ≡ None → Alike before after
  Same : before ≡ after → Alike before after

alike_at : (n : ℕ) (before after : Option (List ℕ)) → Alike before after → changed_page n before after ≡ []
alike_at n before after (Gone e) = subst (λ (o : Option (List ℕ)). changed_page n before o ≡ []) (sym e) refl
alike_at n before after (Same e) = subst (λ (o : Option (List ℕ)). changed_page n before o ≡ []) e (none_at n before)

not_empty : {X : Type 0} (x : X) (xs : List X) → x ∷ xs ≡ [] → ⊥
not_empty x xs e = cc

alike_is : (n : ℕ) (before after : Option (List ℕ)) → changed_page n before after ≡ [] → Alike before after
alike_is n before None e = Gone refl
alike_is n None (Some page) e = absurd (not_empty (numbered n page) [] e)
alike_is n (Some old) (Some page) e = elim (cases_Bool (bytes_eq old page)) [
  | inl same ↦ Same (ap (λ (x : List ℕ). Some x) ((bytes_eq-Decides old page).0 same))
  | inr other ↦ absurd (not_empty (numbered n page) [] (sym (cond-false (bytes_eq old page) [] (numbered n page ∷ []) other) ∙ e))
]

alike_next : (first middle last : Option (List ℕ)) → Alike first middle → Alike middle last → Alike first last
alike_next first middle last h (Gone e) = Gone e
alike_next first middle last (Same e) (Same f) = Same (e ∙ f)
alike_next first middle last (Gone e) (Same f) = Gone (sym f ∙ e)

-- an image differs nowhere from itself
pub differs_nowhere : (a : Image) → DiffersOnlyAt [] a a
differs_nowhere a n above none = none_at n (page_at a n)

-- what differs after two changes differs by one of them
pub differs_next : (ns ms : List ℕ) (a b c : Image) → DiffersOnlyAt ns a b → DiffersOnlyAt ms b c → DiffersOnlyAt (ns ++ ms) a c
differs_next ns ms a b c first second n above none =
    alike_at n (page_at a n) (page_at c n)
    (alike_next (page_at a n) (page_at b n) (page_at c n)
    (alike_is n (page_at a n) (page_at b n) (first n above (none_left n ns ms none)))
    (alike_is n (page_at b n) (page_at c n) (second n above (none_right n ns ms none))))

-- the same numbers in order
pub differs_in_order : (ns : List ℕ) (a b : Image) → DiffersOnlyAt ns a b → DiffersOnlyAt (put_in_order [] ns) a b
differs_in_order ns a b h n above none = h n above (none_in_order n [] ns none).1

-- ---- a change lists all that differs

-- a page after those of an image isn't there
past_all : (b : Image) (n : ℕ) → 1 + numbers_above_one b < n → page_at b n ≡ None
past_all b n past =
    let main : length b.main ≤ page_start n = omega (arith, past) in
    let side : length b.side ≤ page_start n = omega (arith, past) in
    page_at_past b n (omega arith) (of_either (eqb (n % 2) 0) main side)
  where
    of_either : (even : Bool) → length b.main ≤ page_start n → length b.side ≤ page_start n → length (cond even b.main b.side) ≤ page_start n
    of_either true main side = main
    of_either false main side = side

within_all : (b : Image) (n : ℕ) (page : List ℕ) → page_at b n ≡ Some page → n < 2 + numbers_above_one b
within_all b n page is = elim (cases_lt (1 + numbers_above_one b) n) [
  | inl past ↦ let none = past_all b n past in absurd cc
  | inr within ↦ omega (arith, within)
]

-- images that differ in a page aren't the same
other_page : (a b : Image) (n : ℕ) (page : List ℕ) → page_at b n ≡ Some page → (page_at a n ≡ Some page → ⊥) → a ≡ b → ⊥
other_page a b n page is other same = other (ap (λ (x : Image). page_at x n) same ∙ is)

some_is : (x y : List ℕ) → Some x ≡ Some y → x ≡ y
some_is x y e = cc

-- a change lists all pages that differ
pub differs_by_change : (a b : Image) → DiffersOnlyAt (numbers_of (changed a b)) a b
differs_by_change a b n above none = by (page_at a n) (page_at b n) refl refl
  where
    lists : (page : List ℕ) → page_at b n ≡ Some page → (page_at a n ≡ Some page → ⊥) → ⊥
    lists page is other =
        let some : SomeOf (λ (p : NumberedPage). p.number ≡ n) (changed_from 2 (numbers_above_one b) a b) =
        changed_from_some (λ (p : NumberedPage). p.number ≡ n) 2 (numbers_above_one b) a b n page (omega (arith, above)) (within_all b n page is) is other refl in
        none_listed n above (changed_from 2 (numbers_above_one b) a b) (sizes_of b ∷ []) some (subst (λ (ps : List NumberedPage). NoneIs n (numbers_of ps)) (changed_is a b (other_page a b n page is other)) none)

    by : (before after : Option (List ℕ)) → page_at a n ≡ before → page_at b n ≡ after → changed_page n (page_at a n) (page_at b n) ≡ []
    by before None p q = alike_at n (page_at a n) (page_at b n) (Gone q)
    by None (Some page) p q = absurd (lists page q (λ e. let both = sym p ∙ e in absurd cc))
    by (Some old) (Some page) p q = elim (cases_Bool (bytes_eq old page)) [
      | inl same ↦ alike_at n (page_at a n) (page_at b n) (Same (p ∙ ap (λ (x : List ℕ). Some x) ((bytes_eq-Decides old page).0 same) ∙ sym q))
      | inr other ↦ absurd (lists page q (λ e. both_ways (bytes_eq old page) other ((bytes_eq-Decides old page).1 (some_is old page (sym p ∙ e)))))
    ]

-- ---- the change by numbers

-- nothing is listed at numbers where nothing differs
none_at_all : (low : ℕ) (ns : List ℕ) (a b : Image) → Ascends low ns → ((n : ℕ) → low < n → changed_page n (page_at a n) (page_at b n) ≡ []) → changed_at ns a b ≡ []
none_at_all low [] a b order none = refl
none_at_all low (n ∷ ns) a b order none =
    ap (λ (ps : List NumberedPage). ps ++ changed_at ns a b) (none n order.0) ∙ none_at_all n ns a b order.1 (λ m above. none m (omega (arith, order.0, above)))

-- what is listed from a number on is at ascending numbers, if nothing differs elsewhere or further on
listed_at : (low count : ℕ) (ns : List ℕ) (a b : Image) → Ascends low ns → ((n : ℕ) → low < n → NoneIs n ns → changed_page n (page_at a n) (page_at b n) ≡ []) → ((n : ℕ) → low + count < n → changed_page n (page_at a n) (page_at b n) ≡ []) → changed_from (suc low) count a b ≡ changed_at ns a b
unfolding changed_from
listed_at low zero ns a b order else past = sym (none_at_all low ns a b order (λ n above. past n (omega (arith, above))))
listed_at low (suc count) [] a b order else past =
    ap (λ (ps : List NumberedPage). ps ++ changed_from (suc (suc low)) count a b) (else (suc low) (omega arith) tt)
    ∙ listed_at (suc low) count [] a b tt (λ n above none. else n (omega (arith, above)) tt) (λ n above. past n (omega (arith, above)))
listed_at low (suc count) (n ∷ ns) a b order else past = elim (cases_lt (suc low) n) [
  | inl later ↦
      ap (λ (ps : List NumberedPage). ps ++ changed_from (suc (suc low)) count a b) (else (suc low) (omega arith) (none_above (suc low) (suc low) (n ∷ ns) (omega arith) (later, order.1)))
      ∙ listed_at (suc low) count (n ∷ ns) a b (later, order.1) (λ m above none. else m (omega (arith, above)) none) (λ m above. past m (omega (arith, above)))
  | inr here ↦
      let same : n ≡ suc low = omega (arith, here, order.0) in
      ap (λ (k : ℕ). changed_page k (page_at a k) (page_at b k) ++ changed_from (suc (suc low)) count a b) (sym same)
      ∙ ap (λ (ps : List NumberedPage). changed_page n (page_at a n) (page_at b n) ++ ps)
      (listed_at (suc low) count ns a b (subst (λ (k : ℕ). Ascends k ns) same order.1) (λ m above none. else m (omega (arith, above)) ((λ e. omega (arith, e, same, above)), none)) (λ m above. past m (omega (arith, above))))
]

-- the pages above 1 that differ are those at the numbers
pub changed_by_numbers : (ns : List ℕ) (a b : Image) → Ascends 1 ns → DiffersOnlyAt ns a b → changed_from 2 (numbers_above_one b) a b ≡ changed_at ns a b
changed_by_numbers ns a b order else =
    listed_at 1 (numbers_above_one b) ns a b order else (λ n past. alike_at n (page_at a n) (page_at b n) (Gone (past_all b n past)))

-- ---- images of one length of which no page differs

same_is : (a b : Image) → same_image a b ≡ true → a ≡ b
same_is a b e =
    let parts = and_parts (bytes_eq a.main b.main) (bytes_eq a.side b.side) e in
    same_images a b ((bytes_eq-Decides a.main b.main).0 parts.0) ((bytes_eq-Decides a.side b.side).0 parts.1)

same_test : (a b : Image) → a ≡ b → same_image a b ≡ true
same_test a b e =
    and_from (bytes_eq a.main b.main) (bytes_eq a.side b.side)
    ((bytes_eq-Decides a.main b.main).1 (ap (λ (image : Image). image.main) e)) ((bytes_eq-Decides a.side b.side).1 (ap (λ (image : Image). image.side) e))

no_page : (pages : List NumberedPage) → no_pages pages ≡ true → pages ≡ []
no_page [] e = refl
no_page (p ∷ ps) e = absurd cc

resized_same : (n : ℕ) (file : List ℕ) → length file ≡ n → resized n file ≡ file
resized_same n file e = ext_get_or 0 (resized n file) file (length-resized n file ∙ sym e) (λ i lt. get_or-resized n file i (omega (arith, length-resized n file, lt)))

sizes_applied : (a b : Image) → applied a (sizes_of b ∷ []) ≡ record { main = resized (stated_main (sizes_of b).page) a.main; side = resized (stated_side (sizes_of b).page) a.side }
unfolding applied put_pages
sizes_applied a b = refl

-- were they not the same, the sizes page alone would lead from one to the other, and it changes nothing
pub same_bytes : (a b : Image) → length b.main < 2 ^ 64 → length b.side < 2 ^ 64 → length a.main ≡ length b.main → length a.side ≡ length b.side → changed_from 2 (numbers_above_one b) a b ≡ [] → same_image a b ≡ true
same_bytes a b main_fits side_fits main side none = elim (cases_Bool (same_image a b)) [
  | inl same ↦ same
  | inr other ↦
      let differ : a ≡ b → ⊥ = λ e. both_ways (same_image a b) other (same_test a b e) in
      let change : changed a b ≡ sizes_of b ∷ [] = changed_is a b differ ∙ ap (λ (pages : List NumberedPage). pages ++ sizes_of b ∷ []) none in
      let main_is : resized (stated_main (sizes_of b).page) a.main ≡ a.main = resized_same _ a.main (main ∙ sym (stated_main-sizes_page (length b.main) (length b.side) main_fits)) in
      let side_is : resized (stated_side (sizes_of b).page) a.side ≡ a.side = resized_same _ a.side (side ∙ sym (stated_side-sizes_page (length b.main) (length b.side) side_fits)) in
      let stays : applied a (sizes_of b ∷ []) ≡ a = sizes_applied a b ∙ same_images _ a main_is side_is in
      absurd (differ (sym stays ∙ ap (applied a) (sym change) ∙ applied_change a b differ main_fits side_fits))
]

-- the change by the numbers at which two images may differ is the whole change
pub change_is : (ns : List ℕ) (a b : Image) → Ascends 1 ns → DiffersOnlyAt ns a b → length b.main < 2 ^ 64 → length b.side < 2 ^ 64 → change_at ns a b ≡ changed a b
unfolding changed
change_is ns a b order else main_fits side_fits =
    let pages = changed_at ns a b in
    let all : changed_from 2 (numbers_above_one b) a b ≡ pages = changed_by_numbers ns a b order else in
    ap (λ (t : Bool). cond t [] (pages ++ sizes_of b ∷ [])) (tests (same_image a b) refl)
    ∙ ap (λ (ps : List NumberedPage). cond (same_image a b) [] (ps ++ sizes_of b ∷ [])) (sym all)
  where
    nowhere : a ≡ b → changed_at ns a b ≡ []
    nowhere e = none_at_all 1 ns a b order (λ n above. alike_at n (page_at a n) (page_at b n) (Same (ap (λ (x : Image). page_at x n) e)))

    tests : (t : Bool) → same_image a b ≡ t → (no_pages (changed_at ns a b) && same_lengths a b) ≡ same_image a b
    tests true is =
        let e : a ≡ b = same_is a b is in
        and_from (no_pages (changed_at ns a b)) (same_lengths a b) (ap no_pages (nowhere e))
        (and_from (length a.main == length b.main) (length a.side == length b.side) (eq-eqb _ _ (ap (λ (x : Image). length x.main) e)) (eq-eqb _ _ (ap (λ (x : Image). length x.side) e)))
        ∙ sym is
    tests false is = false_from_ne_true (no_pages (changed_at ns a b) && same_lengths a b) (λ h.
        let parts = and_parts (no_pages (changed_at ns a b)) (same_lengths a b) h in
        let lengths = and_parts (length a.main == length b.main) (length a.side == length b.side) parts.1 in
        both_ways (same_image a b) is
        (same_bytes a b main_fits side_fits (eqb-true _ _ lengths.0) (eqb-true _ _ lengths.1) (changed_by_numbers ns a b order else ∙ no_page (changed_at ns a b) parts.0)))
        ∙ sym is

-- ---- lists of all that differs

pub lists_nothing : (a : Image) → ListsAll [] a a
lists_nothing a = record { above = tt; only = differs_nowhere a }

all_above : (ns ms : List ℕ) → AllByRecursion (λ (n : ℕ). 1 < n) ns → AllByRecursion (λ (n : ℕ). 1 < n) ms → AllByRecursion (λ (n : ℕ). 1 < n) (ns ++ ms)
all_above [] ms h k = k
all_above (n ∷ ns) ms h k = (h.0, all_above ns ms h.1 k)

-- the numbers of one more change after others
pub lists_next : (ns : List ℕ) (pages : List NumberedPage) (a b c : Image) → ListsAll ns a b → pages ≡ changed b c → ListsAll (ns ++ numbers_of pages) a c
lists_next ns pages a b c lists is = record {
  above = all_above ns (numbers_of pages) lists.above (numbers_above pages);
  only = subst (λ (ps : List NumberedPage). DiffersOnlyAt (ns ++ numbers_of ps) a c) (sym is) (differs_next ns (numbers_of (changed b c)) a b c lists.only (differs_by_change b c));
}

-- the whole change, by such numbers in order
pub change_in_order : (ns : List ℕ) (a b : Image) → ListsAll ns a b → length b.main < 2 ^ 64 → length b.side < 2 ^ 64 → change_at (put_in_order [] ns) a b ≡ changed a b
change_in_order ns a b lists main_fits side_fits =
    change_is (put_in_order [] ns) a b (in_order_ascends 1 [] ns lists.above tt) (differs_in_order ns a b lists.only) main_fits side_fits
